-- The loop of `parse`: what holds at its head, and how a field carries it on. Assumes nothing.
use mathlib.Core.Path.{◌≡◌, refl, sym, ap, subst, ◌∙◌}
use mathlib.Core.Bool.{false}
use mathlib.Core.List.{List, [], ◌∷◌, ◌++◌}
use Prim.Native.Nat.{ℕ, suc, ◌+◌, ◌-◌, ◌≤◌, ◌<◌}
use native.Mathlib.Nat.{add-zero, zero-add}
use native.Mathlib.Omega.{arith}
use lib.Dec.{ltb}
use lib.ListN.{length, set, drop, replicate}
use lib.Seq.{sets, sets-eq, length-sets}
use borrow.Author.Tests.{lt-ltb, ne_eqb}
use Rattle.std.specs.Prelude.{Option, Some, None, Ok, Err}
use Rattle.model.specs.Field.{plan_step, Step}
use Rattle.model.specs.Plan.{Plan, Reading, Next, tasks, edges, cores, key_of, field_of, no_plan, with_bus, with_task, with_edge, least_key, on_with, reading_from, reading_of, seen as seen_of}
use Rattle.model.specs.Refusals.{Check}
use Rattle.model.specs.declared.Field.{Field}
use Rattle.model.specs.declared.Refusal.{Refusal}
use Rattle.model.specs.declared.Seen.{Seen}
use Rattle.model.specs.declared.Side.TheVariants.{OfPlan}
use Rattle.model.specs.declared.Taken.{Taken}
use Rattle.model.specs.declared.Taken.TheVariants.{Header, Task, Edge}
use Rattle.model.proofs.FieldLaws.{Whole, whole}
use Rattle.model.proofs.Plan.{Took, took, reading_on, snoc_length, snoc_new, Partly, partly_none, partly_header, partly_task, partly_edge}
use Rattle.plan.specs.Planned.{filled, columns_of, after, kept, Room}
use Rattle.plan.specs.declared.Columns.{Columns}

-- ---- a step that finds a field finds a whole one
pub found_whole : (bytes : List ℕ) (place : ℕ) (x : Step) (o : Option Field) (f : Field) → x ≡ plan_step bytes place → x ≡ Ok o → o ≡ Some f
    → Whole OfPlan bytes place f.tag f.at f.body
found_whole bytes place x o f e p q = whole OfPlan bytes place (sym e ∙ (p ∙ ap (λ (y : Option Field). Ok y) q))

-- ---- columns
pub filled_none : (l : List ℕ) → l ≡ filled [] l
unfolding filled
filled_none l = refl

sets_more : (a : List ℕ) (x : ℕ) (l : List ℕ) (i : ℕ) → set (sets l i a) (i + length a) x ≡ sets l i (a ++ (x ∷ []))
sets_more [] x l i = rw (add-zero i)
sets_more (y ∷ a) x l i =
    let e : i + suc (length a) ≡ suc i + length a = omega arith in
    rw e (sets_more a x (set l i y) (suc i))

-- one entry more, stored behind the others
pub filled_more : (front l : List ℕ) (i x : ℕ) → i ≡ length front → set (filled front l) i x ≡ filled (front ++ (x ∷ [])) l
unfolding filled
filled_more front l i x q = rw (q, ← zero-add (length front)) (sets_more front x l 0)

-- into a column that is long enough: the new entries, then the rest
pub filled_front : (front l : List ℕ) → length front ≤ length l → filled front l ≡ front ++ drop (length front) l
unfolding filled
filled_front front l h = sets-eq front l 0 (omega arith) ∙ rw (zero-add (length front))

pub filled_length : (front l : List ℕ) → length (filled front l) ≡ length l
unfolding filled
filled_length front l = length-sets l 0 front

-- ---- a plan with what a field gives, and the place behind that field
abbrev next_of : Taken → ℕ
next_of (Header b next) = next
next_of (Task c next) = next
next_of (Edge from to words next) = next

abbrev more : Plan → Taken → Plan
more p (Header b next) = with_bus p b
more p (Task c next) = with_task p c
more p (Edge from to words next) = with_edge p from to words

least_edge : (p : Plan) (from to words : ℕ) → length p.targets ≡ edges p → key_of from to + 1 ≡ least_key (with_edge p from to words)
unfolding least_key
least_edge p from to words h =
    let long : length (p.sources ++ (from ∷ [])) ≡ edges p + 1 = snoc_length p.sources from in
    rw (
      ne_eqb (length (p.sources ++ (from ∷ []))) 0 (λ z. omega arith),
      snoc_new p.sources from (length (p.sources ++ (from ∷ [])) - 1) (omega arith),
      snoc_new p.targets to (length (p.sources ++ (from ∷ [])) - 1) (omega arith),
    )

module _ (bytes : List ℕ) (place : ℕ) (p : Plan) (w : Partly bytes place p) where
  abbrev Gave : Taken → Type 0
  Gave t = Took bytes (seen_of place p) (Ok (Some t))

  more_room : (t : Taken) → Gave t → Room (tasks p) (edges p) t
  more_room (Header b next) g = tt
  more_room (Task c next) g = g.room
  more_room (Edge from to words next) g = g.room

  more_within : (t : Taken) → Gave t → (place < next_of t) × (next_of t ≤ length bytes)
  more_within (Header b next) g = (omega (arith, g.behind), g.fits)
  more_within (Task c next) g = (omega (arith, g.behind), g.fits)
  more_within (Edge from to words next) g = (omega (arith, g.behind), g.fits)

  more_partly : (t : Taken) → Gave t → Partly bytes (next_of t) (more p t)
  more_partly (Header b next) g = partly_header bytes place p w b next g
  more_partly (Task c next) g = partly_task bytes place p w c next g
  more_partly (Edge from to words next) g = partly_edge bytes place p w from to words next g

  more_seen : (t : Taken) → Gave t → after (seen_of place p) t ≡ seen_of (next_of t) (more p t)
  unfolding least_key
  more_seen (Header b next) g = rw (lt-ltb 0 b.cores g.settings.cores_some)
  more_seen (Task c next) g = rw (snoc_length p.costs c)
  more_seen (Edge from to words next) g =
      λ i. record {
        at = next;
        started = ltb 0 (cores p);
        tasks = tasks p;
        edges = sym (snoc_length p.sources from) i;
        least = least_edge p from to words w.ranges.targets_all i;
      }

  more_columns : (order : List ℕ) (t : Taken) → kept (columns_of p order) t ≡ columns_of (more p t) order
  unfolding columns_of
  more_columns order (Header b next) = refl
  more_columns order (Task c next) = rw (snoc_length p.costs c, filled_more p.costs (replicate 64 0) (tasks p) c refl)
  more_columns order (Edge from to words next) =
      rw (
        snoc_length p.sources from,
        filled_more p.sources (replicate 256 0) (edges p) from refl,
        filled_more p.targets (replicate 256 0) (edges p) to (sym w.ranges.targets_all),
        filled_more p.amounts (replicate 256 0) (edges p) words (sym w.ranges.amounts_all),
      )

on_more : (p : Plan) (t : Taken) (go : ℕ → Plan → Reading) → on_with p (Ok (Some t)) go ≡ go (next_of t) (more p t)
on_more p (Header b next) go = refl
on_more p (Task c next) go = refl
on_more p (Edge from to words next) go = refl

-- ---- at the head of the loop: the plan so far, which the rest of the bytes completes
pub record From (bytes : List ℕ) (c : Columns) (s : Seen) : Type 0 where
  pub sofar : Plan
  pub seen : s ≡ seen_of s.at sofar
  pub partly : Partly bytes s.at sofar
  pub within : s.at ≤ length bytes
  pub same : reading_from bytes s.at sofar ≡ reading_of bytes
  pub columns : c ≡ columns_of sofar (replicate 64 0)

pub from_start : (bytes : List ℕ) (c : Columns) → c ≡ columns_of no_plan (replicate 64 0)
    → From bytes c (record { at = 0; started = false; tasks = 0; edges = 0; least = 0 })
unfolding reading_of least_key
from_start bytes c e =
    record {
      sofar = no_plan;
      seen = refl;
      partly = partly_none bytes;
      within = omega arith;
      same = refl;
      columns = e;
    }

module _ (bytes : List ℕ) (c : Columns) (k : Seen) (f : From bytes c k) (x : Next) (ex : x ≡ field_of bytes k) where
  reading : {y : Next} → x ≡ y → on_with f.sofar y (reading_from bytes) ≡ reading_of bytes
  reading {y} e =
      let q : field_of bytes (seen_of k.at f.sofar) ≡ y = ap (field_of bytes) (sym f.seen) ∙ (sym ex ∙ e) in
      ap (λ (z : Next). on_with f.sofar z (reading_from bytes)) (sym q) ∙ (sym (reading_on bytes k.at f.sofar f.within) ∙ f.same)

  -- a field: what it gave, for which there is room
  module _ (t : Taken) (e : x ≡ Ok (Some t)) where
    gave : Gave bytes k.at f.sofar f.partly t
    gave = subst (λ (z : Seen). Took bytes z (Ok (Some t))) f.seen (subst (Took bytes k) (sym ex ∙ e) (took bytes k))

    pub seen_room : Room k.tasks k.edges t
    seen_room = subst (λ (z : Seen). Room z.tasks z.edges t) (sym f.seen) (more_room bytes k.at f.sofar f.partly t gave)

    pub columns_room : Room c.tasks c.edges t
    unfolding columns_of
    columns_room = subst (λ (z : Columns). Room z.tasks z.edges t) (sym f.columns) (more_room bytes k.at f.sofar f.partly t gave)

    -- it carries the plan so far on
    module _ (z : Seen) (ez : z ≡ after k t) where
      seen_next : z ≡ seen_of (next_of t) (more f.sofar t)
      seen_next = ez ∙ (ap (λ (y : Seen). after y t) f.seen ∙ more_seen bytes k.at f.sofar f.partly t gave)

      place_next : next_of t ≡ z.at
      place_next = sym (ap (λ (y : Seen). y.at) seen_next)

      pub from_less : length bytes - z.at < length bytes - k.at
      from_less = let w = more_within bytes k.at f.sofar f.partly t gave in omega (arith, w.0, w.1, place_next)

      pub from_next : (d : Columns) → d ≡ kept c t → From bytes d z
      from_next d ed =
          record {
            sofar = more f.sofar t;
            seen = rw place_next at seen_next;
            partly = rw place_next at (more_partly bytes k.at f.sofar f.partly t gave);
            within = omega (arith, (more_within bytes k.at f.sofar f.partly t gave).1, place_next);
            same = rw place_next at (sym (on_more f.sofar t (reading_from bytes)) ∙ reading e);
            columns = ed ∙ (ap (λ (y : Columns). kept y t) f.columns ∙ more_columns bytes k.at f.sofar f.partly (replicate 64 0) t);
          }

  -- the end
  abbrev Ended : Check → Type 0
  Ended r = (r ≡ (reading_of bytes).check) × (c ≡ columns_of (reading_of bytes).plan (replicate 64 0))

  ended : (r : Check) → (record { plan = f.sofar; check = r }) ≡ reading_of bytes → Ended r
  ended r q = (ap (λ (z : Reading). z.check) q, f.columns ∙ ap (λ (z : Reading). columns_of z.plan (replicate 64 0)) q)

  pub from_complete : x ≡ Ok None → Ended (Ok tt)
  from_complete e = ended (Ok tt) (reading e)

  pub from_refused : {r : Refusal} → x ≡ Err r → Ended (Err r)
  from_refused {r} e = ended (Err r) (reading e)
