-- A caller with a longer column of cores lends its front: what `play_phases` asks for and answers is the same of it.
-- Assumes nothing.
use mathlib.Core.Path.{◌≡◌, sym, ◌∙◌}
use mathlib.Core.List.{List}
use Prim.Native.Nat.{ℕ}
use native.Mathlib.Omega.{arith}
use lib.ListN.{length, take}
use Rattle.model.specs.Below.{at}
use Rattle.model.specs.BusRule.{answers}
use Rattle.model.specs.declared.Bus.{Bus}
use Rattle.model.proofs.Contention.{Agree, agree_sym}
use Rattle.model.proofs.SameRun.{answers_same}
use Rattle.contention.specs.Columns.{phases_by, Sized}
use Rattle.contention.proofs.Rivalry.{front_count, front_agrees}
use Rattle.guarantee.proofs.SameGuarantee.{guaranteed_alike}
use Rattle.bus.specs.Playing.{use_of, Playable}

module _ (b : Bus) (core start end words actual : List ℕ) (served : ℕ) (s : Sized core start end words (length actual))
    (p : Playable b (phases_by core start end words (length actual)) served actual)
  where
    abbrev front : List ℕ
    front = take (length actual) core

    count : length front ≡ length actual
    count = front_count core start end words (length actual) s

    agree : Agree (phases_by front start end words (length front)) (phases_by core start end words (length actual))
    agree = front_agrees core start end words (length actual) s

    pub playable_front :
        Playable b (phases_by (take (length actual) core) start end words (length (take (length actual) core))) served actual
    playable_front =
        record {
          settings = p.settings;
          counted = sym count;
          placed = λ x l. rw (agree.core x l) (p.placed x (omega (arith, count)));
          served_known = p.served_known;
          within = λ x l. p.within x (omega (arith, count));
          kept = guaranteed_alike b _ _ (agree_sym _ _ agree) (use_of served actual) p.served_known p.placed p.kept;
        }

    pub answers_front :
        answers b (phases_by (take (length actual) core) start end words (length (take (length actual) core))) (use_of served actual)
        ≡ answers b (phases_by core start end words (length actual)) (use_of served actual)
    answers_front =
        answers_same b _ (at core) (at start) (at end) (at words) _ agree.core agree.start p.served_known playable_front.placed ∙ rw count
