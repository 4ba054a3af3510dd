use Rattle.std.proofs.Common.{drop, take, ◌++◌, ◌≡◌}
use Rattle.certificate.specs.Certificate.{header_words}
use Rattle.certificate.proofs.write_header.Given as goal

abbrev pub invariant-loop-kind : goal.invariant-loop-kind
invariant-loop-kind l = l.out ≡ take l.kind-index (header_words l.v) ++ drop l.kind-index l.initial.out
