-- Checks in order that are one test each: the first that passes its test decides. Assumes nothing.
use mathlib.Core.Path.{◌≡◌}
use mathlib.Core.Bool.{Bool}
use Prim.Native.Nat.{ℕ}
use native.Mathlib.Omega.{arith}
use lib.Dec.{ltb}
use borrow.Author.Tests.{lt-ltb, le-ltb}
use Rattle.model.specs.Below.{first_below}
use Rattle.model.specs.Refusals.{Check, refuse_if, first_bad}
use Rattle.model.specs.declared.Refusal.{Refusal}
use Rattle.model.proofs.Below.{first}
use Rattle.model.proofs.Tests.{lt_or_ge}
use Rattle.model.proofs.Refusals.{first_all, stopped_first}

pub first_refusal : (p : ℕ → Bool) (r : ℕ → Refusal) (n : ℕ)
    → first_bad (λ x. refuse_if (p x) (r x)) n ≡ refuse_if (ltb (first_below p n) n) (r (first_below p n))
first_refusal p r n =
    let f : ℕ → Check = λ x. refuse_if (p x) (r x) in
    let s = first p n in
    lt_or_ge (first_below p n) n
    (λ l.
    rw (lt-ltb (first_below p n) n l)
    (stopped_first f n (record { here = first_below p n; within = l; before = λ k h. rw (s.before k h); bad = rw (s.here l) })))
    (λ l. rw (le-ltb (first_below p n) n l) (first_all f n (λ k h. rw (s.before k (omega arith)))))
