-- A certificate as a file: its words as bytes, four a word, the lowest first, are read back as its words, and pass the C check.
-- Assumes nothing.
use Rattle.std.specs.Prelude.{◌≡◌, refl, List, [], ◌∷◌, ℕ, zero, suc, ◌+◌, ◌*◌, ◌/◌, ◌%◌, ◌^◌, ◌<◌, length, get_or, Ok}
use Rattle.std.proofs.Common.{sym, ◌∙◌, ap, subst, arith, ext_get_or}
use Rattle.slices.specs.Filling.{length_tab, get_d_tab}
use Rattle.zmod.specs.Residues.{Reduced}
use Rattle.sheet.specs.Word.{word_at, words_of}
use Rattle.questions.specs.Questions.{AllYes}
use Rattle.promises.specs.Asked.{check_asks}
use Rattle.promises.specs.Certificates.{check_asked}
use Rattle.guarantees.specs.Words.{words_small}
use Rattle.sagepliers.specs.Entry.{WholeWords, CheckNumber}

-- the bytes of words
abbrev pub bytes_of : List ℕ → List ℕ
bytes_of [] = []
bytes_of (w ∷ ws) = w % 2 ^ 8 ∷ w / 2 ^ 8 % 2 ^ 8 ∷ w / 2 ^ 16 % 2 ^ 8 ∷ w / 2 ^ 24 % 2 ^ 8 ∷ bytes_of ws

bytes_length : (ws : List ℕ) → length (bytes_of ws) ≡ 4 * length ws
bytes_length [] = refl
bytes_length (w ∷ ws) = omega (arith, bytes_length ws)

bytes_whole : (ws : List ℕ) → WholeWords (bytes_of ws)
bytes_whole ws = omega (arith, bytes_length ws)

-- four bytes of 32 bits, from the remainders of dividing by 2^8
joined : (w q₁ q₂ q₃ r₀ r₁ r₂ r₃ : ℕ) → w ≡ 2 ^ 8 * q₁ + r₀ → q₁ ≡ 2 ^ 8 * q₂ + r₁ → q₂ ≡ 2 ^ 8 * q₃ + r₂ → q₃ ≡ r₃
    → r₀ + 2 ^ 8 * r₁ + 2 ^ 16 * r₂ + 2 ^ 24 * r₃ ≡ w
joined w q₁ q₂ q₃ r₀ r₁ r₂ r₃ e₀ e₁ e₂ e₃ = omega arith

word_back : (w : ℕ) → w < 2 ^ 32 → w % 2 ^ 8 + 2 ^ 8 * (w / 2 ^ 8 % 2 ^ 8) + 2 ^ 16 * (w / 2 ^ 16 % 2 ^ 8) + 2 ^ 24 * (w / 2 ^ 24 % 2 ^ 8) ≡ w
word_back w h =
    let second : w / 2 ^ 8 / 2 ^ 8 ≡ w / 2 ^ 16 = omega arith in
    let third : w / 2 ^ 16 / 2 ^ 8 ≡ w / 2 ^ 24 = omega arith in
    joined w (w / 2 ^ 8) (w / 2 ^ 16) (w / 2 ^ 24) _ _ _ _ (omega arith) (omega arith) (omega arith) (omega arith)

-- a word further on is one of the bytes after the first four
later : (a b c e : ℕ) (bytes : List ℕ) (i : ℕ) → word_at (a ∷ b ∷ c ∷ e ∷ bytes) (suc i) ≡ word_at bytes i
later a b c e bytes i = cc (ap (λ k. get_or (a ∷ b ∷ c ∷ e ∷ bytes) k 0) first, on 1, on 2, on 3)
  where
    first : 4 * suc i ≡ suc (suc (suc (suc (4 * i))))
    first = omega arith

    on : (k : ℕ) → get_or (a ∷ b ∷ c ∷ e ∷ bytes) (4 * suc i + k) 0 ≡ get_or bytes (4 * i + k) 0
    on k = let place : 4 * suc i + k ≡ suc (suc (suc (suc (4 * i + k)))) = omega arith in ap (λ k. get_or (a ∷ b ∷ c ∷ e ∷ bytes) k 0) place

word_is : (ws : List ℕ) → Reduced (2 ^ 32) ws → (i : ℕ) → i < length ws → word_at (bytes_of ws) i ≡ get_or ws i 0
word_is [] h i l = absurd (omega arith)
word_is (w ∷ ws) h zero l = word_back w (h 0)
word_is (w ∷ ws) h (suc i) l = later _ _ _ _ (bytes_of ws) i ∙ word_is ws (λ i. h (suc i)) i (omega arith)

-- The words of the bytes of words of 32 bits are these words.
pub bytes_back : (ws : List ℕ) → Reduced (2 ^ 32) ws → words_of (bytes_of ws) ≡ ws
bytes_back ws h =
    let quarter : length (bytes_of ws) / 4 ≡ length ws = omega (arith, bytes_length ws) in
    let long : length (words_of (bytes_of ws)) ≡ length ws = length_tab (length (bytes_of ws) / 4) (word_at (bytes_of ws)) ∙ quarter in
    ext_get_or 0 (words_of (bytes_of ws)) ws long λ i l.
    get_d_tab (length (bytes_of ws) / 4) (word_at (bytes_of ws)) i (omega arith) ∙ word_is ws h i (omega arith)

-- The bytes of a certificate that passes get 0 from the C check.
pub certificate_bytes : (ws : List ℕ) → AllYes (check_asks ws) → CheckNumber (bytes_of ws) 0
certificate_bytes ws passes = record {
  answer = Ok tt;
  right = ((bytes_whole ws, subst (λ us. AllYes (check_asks us)) (sym (bytes_back ws (words_small ws (check_asked ws passes)))) passes), tt);
  number = refl;
}
