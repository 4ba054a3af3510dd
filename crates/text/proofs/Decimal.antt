-- What a reader may ask of `digits` and `decimal`: digits read back give the number, every character is a digit, no needless zero stands in front, and
-- no shorter run of digits holds the number.
-- Assumes nothing.
use Rattle.std.specs.Prelude.{◌≡◌, refl, cond, List, [], ◌∷◌, ◌++◌, ℕ, zero, suc, ◌+◌, ◌*◌, ◌-◌, ◌/◌, ◌%◌, ◌^◌, ◌<◌, ◌≤◌, ltb, length, get_or, set, drop}
use Rattle.std.proofs.Common.{sym, ◌∙◌, ap, ap₂, subst, pow-suc, div-lt_iff_lt-mul, add-one, arith, lt-ltb, le-ltb, length-append, length-set, drop-cons, drop-set-lt, get_or-set_same}
use Rattle.std.proofs.Math.Decide.{dec_lt}
use Rattle.std.proofs.Math.Nat.{pow-zero, pow-succ', div-add-mod}
use Rattle.std.proofs.Math.Seq.{append_snoc}
use Rattle.text.specs.Text.{code, digits, decimal_in, decimal}

-- ── decimal n by one digit and by the digits of n / 10

small_in : (steps n : ℕ) → n < 10 → decimal_in steps n ≡ code n ∷ []
unfolding decimal_in
small_in zero n h = refl
small_in (suc steps) n h = ap (λ t. cond t (code n ∷ []) (decimal_in steps (n / 10) ++ code (n % 10) ∷ [])) (lt-ltb n 10 h)

large_in : (steps n : ℕ) → 10 ≤ n → decimal_in (suc steps) n ≡ decimal_in steps (n / 10) ++ code (n % 10) ∷ []
unfolding decimal_in
large_in steps n h = ap (λ t. cond t (code n ∷ []) (decimal_in steps (n / 10) ++ code (n % 10) ∷ [])) (le-ltb n 10 h)

-- steps that are left over change nothing
enough : (s t n : ℕ) → n ≤ s → n ≤ t → decimal_in s n ≡ decimal_in t n
enough zero t n hs ht = small_in zero n (omega arith) ∙ sym (small_in t n (omega arith))
enough (suc s) zero n hs ht = small_in (suc s) n (omega arith) ∙ sym (small_in zero n (omega arith))
enough (suc s) (suc t) n hs ht = go (dec_lt n 10) (enough s t (n / 10))
  where
    go : Dec (n < 10) → (n / 10 ≤ s → n / 10 ≤ t → decimal_in s (n / 10) ≡ decimal_in t (n / 10)) → decimal_in (suc s) n ≡ decimal_in (suc t) n
    go (yes h) rest = small_in (suc s) n h ∙ sym (small_in (suc t) n h)
    go (no h) rest =
        large_in s n (omega arith)
        ∙ ap (λ (l : List ℕ). l ++ code (n % 10) ∷ []) (rest (omega arith) (omega arith))
        ∙ sym (large_in t n (omega arith))

pub decimal_one : (n : ℕ) → n < 10 → decimal n ≡ code n ∷ []
unfolding decimal
decimal_one n h = small_in n n h

pub decimal_more : (n : ℕ) → 10 ≤ n → decimal n ≡ decimal (n / 10) ++ code (n % 10) ∷ []
unfolding decimal
decimal_more n h =
    enough n (suc n) n (omega arith) (omega arith)
    ∙ large_in n n h
    ∙ ap (λ (l : List ℕ). l ++ code (n % 10) ∷ []) (enough n (n / 10) (n / 10) (omega arith) (omega arith))

-- what holds of numbers below 10, and of n when it holds of n / 10, holds of all
module _ (P : ℕ → Type 0) (one : (n : ℕ) → n < 10 → P n) (more : (n : ℕ) → 10 ≤ n → P (n / 10) → P n) where
  by_digits_in : (s n : ℕ) → n ≤ s → P n
  by_digits_in zero n h = one n (omega arith)
  by_digits_in (suc s) n h = go (dec_lt n 10) (by_digits_in s (n / 10))
    where
      go : Dec (n < 10) → (n / 10 ≤ s → P (n / 10)) → P n
      go (yes l) rest = one n l
      go (no l) rest = more n (omega arith) (rest (omega arith))

  pub by_digits : (n : ℕ) → P n
  by_digits n = by_digits_in n n (omega arith)

pub length_more : (n : ℕ) → 10 ≤ n → length (decimal n) ≡ suc (length (decimal (n / 10)))
length_more n h = ap length (decimal_more n h) ∙ length-append (decimal (n / 10)) (code (n % 10) ∷ []) ∙ add-one (length (decimal (n / 10)))

-- ── `decimal` is `digits` with as many digits as are needed

pub decimal_digits : (n : ℕ) → decimal n ≡ digits 10 (length (decimal n)) n
unfolding digits
decimal_digits = by_digits (λ n. decimal n ≡ digits 10 (length (decimal n)) n) one more
  where
    one : (n : ℕ) → n < 10 → decimal n ≡ digits 10 (length (decimal n)) n
    one n h =
        let last : n ≡ n % 10 = omega arith in
        decimal_one n h ∙ ap (λ d. code d ∷ []) last ∙ ap (λ (l : List ℕ). digits 10 (length l) n) (sym (decimal_one n h))

    more : (n : ℕ) → 10 ≤ n → decimal (n / 10) ≡ digits 10 (length (decimal (n / 10))) (n / 10) → decimal n ≡ digits 10 (length (decimal n)) n
    more n h e = decimal_more n h ∙ ap (λ (l : List ℕ). l ++ code (n % 10) ∷ []) e ∙ ap (λ k. digits 10 k n) (sym (length_more n h))

-- the last of the digits that are left, stored in front of what stands behind them
pub digits_set : (b j n : ℕ) (out : List ℕ) → j < length out
    → digits b j (n / b) ++ drop j (set out j (code (n % b))) ≡ digits b (j + 1) n ++ drop (j + 1) out
unfolding digits
digits_set b j n out inside =
    ap (λ (l : List ℕ). digits b j (n / b) ++ l)
    (drop-cons (set out j (code (n % b))) j 0 (omega (arith, length-set out j (code (n % b))))
    ∙ ap₂ ◌∷◌ (get_or-set_same out j (code (n % b)) 0 inside) (drop-set-lt (suc j) out j (code (n % b)) (omega arith)))
    ∙ sym (append_snoc (digits b j (n / b)) (code (n % b)) (drop (suc j) out))
    ∙ ap (λ k. digits b k n ++ drop k out) (sym (add-one j))

-- ── a run of digits read back

unfoldable pub digit_of : ℕ → ℕ
digit_of c = cond (ltb c 58) (c - 48) (c - 87)

-- the number of a run of digits behind the number `front`
unfoldable pub read_on : ℕ → ℕ → List ℕ → ℕ
read_on b front [] = front
read_on b front (c ∷ cs) = read_on b (b * front + digit_of c) cs

abbrev pub read : ℕ → List ℕ → ℕ
read b cs = read_on b 0 cs

pub digit_of_code : (d : ℕ) → digit_of (code d) ≡ d
unfolding digit_of
digit_of_code d = go (dec_lt d 10)
  where
    go : Dec (d < 10) → digit_of (code d) ≡ d
    go (yes h) =
        let back : 48 + d - 48 ≡ d = omega arith in
        ap (λ t. digit_of (cond t (48 + d) (87 + d))) (lt-ltb d 10 h)
        ∙ ap (λ t. cond t (48 + d - 48) (48 + d - 87)) (lt-ltb (48 + d) 58 (omega arith)) ∙ back
    go (no h) =
        let back : 87 + d - 87 ≡ d = omega arith in
        ap (λ t. digit_of (cond t (48 + d) (87 + d))) (le-ltb d 10 (omega arith))
        ∙ ap (λ t. cond t (87 + d - 48) (87 + d - 87)) (le-ltb (87 + d) 58 (omega arith)) ∙ back

read_last : (b front : ℕ) (cs : List ℕ) (c : ℕ) → read_on b front (cs ++ c ∷ []) ≡ b * read_on b front cs + digit_of c
unfolding read_on
read_last b front [] c = refl
read_last b front (x ∷ cs) c = read_last b (b * front + digit_of x) cs c

pub decimal_read : (n : ℕ) → read 10 (decimal n) ≡ n
unfolding read_on
decimal_read = by_digits (λ n. read 10 (decimal n) ≡ n) one more
  where
    one : (n : ℕ) → n < 10 → read 10 (decimal n) ≡ n
    one n h = ap (read 10) (decimal_one n h) ∙ ap (λ d. 10 * 0 + d) (digit_of_code n) ∙ omega arith

    more : (n : ℕ) → 10 ≤ n → read 10 (decimal (n / 10)) ≡ n / 10 → read 10 (decimal n) ≡ n
    more n h e =
        ap (read 10) (decimal_more n h)
        ∙ read_last 10 0 (decimal (n / 10)) (code (n % 10))
        ∙ ap₂ (λ a d. 10 * a + d) e (digit_of_code (n % 10))
        ∙ omega arith

-- k digits hold every number below b ^ k
pub digits_read : (b k n : ℕ) → 0 < b → n < b ^ k → read b (digits b k n) ≡ n
unfolding digits read_on
digits_read b zero n h l = omega (arith, l, pow-zero b)
digits_read b (suc k) n h l =
    read_last b 0 (digits b k (n / b)) (code (n % b))
    ∙ ap₂ (λ a d. b * a + d) (digits_read b k (n / b) h ((div-lt_iff_lt-mul h).1 (rw pow-suc at l))) (digit_of_code (n % b))
    ∙ div-add-mod n b

-- ── every character is a digit

abbrev pub IsDigit : ℕ → Type 0
IsDigit c = (48 ≤ c) × (c ≤ 57)

unfoldable pub AllDigits : List ℕ → Type 0
AllDigits [] = Unit {0}
AllDigits (c ∷ cs) = IsDigit c × AllDigits cs

code_digit : (d : ℕ) → d < 10 → IsDigit (code d)
code_digit d h = subst IsDigit (sym (ap (λ t. cond t (48 + d) (87 + d)) (lt-ltb d 10 h))) (omega arith, omega arith)

digits_then : (cs : List ℕ) (c : ℕ) → AllDigits cs → IsDigit c → AllDigits (cs ++ c ∷ [])
unfolding AllDigits
digits_then [] c all h = (h, tt)
digits_then (x ∷ cs) c all h = (all.0, digits_then cs c all.1 h)

pub decimal_all_digits : (n : ℕ) → AllDigits (decimal n)
unfolding AllDigits
decimal_all_digits = by_digits (λ n. AllDigits (decimal n)) one more
  where
    one : (n : ℕ) → n < 10 → AllDigits (decimal n)
    one n h = subst AllDigits (sym (decimal_one n h)) (code_digit n h, tt)

    more : (n : ℕ) → 10 ≤ n → AllDigits (decimal (n / 10)) → AllDigits (decimal n)
    more n h all = subst AllDigits (sym (decimal_more n h)) (digits_then (decimal (n / 10)) (code (n % 10)) all (code_digit (n % 10) (omega arith)))

-- ── the first character is 0 for the number 0 alone, and then it is the only one

pub decimal_zero : decimal 0 ≡ 48 ∷ []
unfolding decimal decimal_in
decimal_zero = refl

first_of : (cs : List ℕ) (c : ℕ) → 0 < length cs → get_or (cs ++ c ∷ []) 0 0 ≡ get_or cs 0 0
first_of [] c h = absurd (omega arith)
first_of (x ∷ cs) c h = refl

pub decimal_some : (n : ℕ) → 0 < length (decimal n)
decimal_some = by_digits (λ n. 0 < length (decimal n)) (λ n h. omega (arith, ap length (decimal_one n h))) (λ n h e. omega (arith, length_more n h))

pub decimal_first : (n : ℕ) → 0 < n → get_or (decimal n) 0 0 ≡ 48 → ⊥
decimal_first = by_digits (λ n. 0 < n → get_or (decimal n) 0 0 ≡ 48 → ⊥) one more
  where
    one : (n : ℕ) → n < 10 → 0 < n → get_or (decimal n) 0 0 ≡ 48 → ⊥
    one n h pos e =
        omega (arith, ap (λ (l : List ℕ). get_or l 0 0) (decimal_one n h), ap (λ t. cond t (48 + n) (87 + n)) (lt-ltb n 10 h), e)

    more : (n : ℕ) → 10 ≤ n → (0 < n / 10 → get_or (decimal (n / 10)) 0 0 ≡ 48 → ⊥) → 0 < n → get_or (decimal n) 0 0 ≡ 48 → ⊥
    more n h ih pos e =
        ih (omega arith)
        (sym (first_of (decimal (n / 10)) (code (n % 10)) (decimal_some (n / 10))) ∙ sym (ap (λ (l : List ℕ). get_or l 0 0) (decimal_more n h)) ∙ e)

-- ── a number below 10 ^ (k + 1) has k + 1 digits at most

pub decimal_short : (n k : ℕ) → n < 10 ^ suc k → length (decimal n) ≤ suc k
decimal_short = by_digits (λ n. (k : ℕ) → n < 10 ^ suc k → length (decimal n) ≤ suc k) (λ n h k l. omega (arith, ap length (decimal_one n h))) more
  where
    more : (n : ℕ) → 10 ≤ n → ((k : ℕ) → n / 10 < 10 ^ suc k → length (decimal (n / 10)) ≤ suc k) → (k : ℕ) → n < 10 ^ suc k → length (decimal n) ≤ suc k
    more n h ih zero l = absurd (omega arith)
    more n h ih (suc k) l = omega (arith, length_more n h, ih k (omega (arith, l, pow-succ' 10 (suc k))))
