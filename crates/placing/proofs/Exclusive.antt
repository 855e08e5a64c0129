-- The exclusive start by jumps. A window that meets a phase goes on meeting it until it starts at the phase's end: so all starts
-- before the greatest end that is met clash. Assumes nothing.
use mathlib.Core.Path.{◌≡◌, refl, sym, subst, subst₂, ◌∙◌}
use mathlib.Core.Bool.{Bool, true, false, not}
use mathlib.Core.List.{List}
use Prim.Native.Nat.{ℕ, zero, suc, ◌+◌, ◌-◌, ◌≤◌, ◌<◌, max, zero-le}
use native.Mathlib.Nat.{le_refl}
use native.Mathlib.Omega.{arith}
use lib.Dec.{eqb}
use borrow.Author.Tests.{le-ltb}
use Rattle.model.specs.Below.{at, join_below, max_below}
use Rattle.model.specs.Contention.{Phases}
use Rattle.model.specs.ListRule.{LeastFree}
use Rattle.model.proofs.Tests.{either, conflict, lt_or_ge, same_or_not, and_no, or_none, or_left, or_right, cond_le}
use Rattle.model.proofs.Below.{max_ge, max_le, max_mono, any_none, any_here, join_step}
use Rattle.model.proofs.Placing.{meets, meets_after, meets_moved}
use Rattle.contention.specs.Columns.{overlap_of, rival_of, rival_by, phases_by}
use Rattle.placing.specs.Starts.{Task, end_met, met_until, clash_by, next_by}

-- a greatest value over 0 is the value somewhere
pub max_found : (f : ℕ → ℕ) (n : ℕ) → 0 < max_below f n → (i : ℕ) × (i < n) × (f i ≡ max_below f n)
unfolding join_below
max_found f zero h = absurd (omega arith)
max_found f (suc n) h =
    lt_or_ge (max_below f n) (f n)
    (λ l. (n, omega arith, omega arith))
    (λ l. let w = max_found f n (omega arith) in (w.0, omega (arith, w.1), omega (arith, w.2)))

module _ (core start end words : List ℕ) (count : ℕ) where
  abbrev h : Phases
  h = phases_by core start end words count

  abbrev meet : ℕ → ℕ → ℕ → ℕ → ℕ → Bool
  meet = rival_by core start end words

  abbrev top : ℕ
  top = max_below (at end) count

  meet_phase : (mine own from to y : ℕ) → meet mine own from to y ≡ meets h mine own from to y
  unfolding rival_by rival_of overlap_of meets
  meet_phase mine own from to y = refl

  module _ (mine own from to : ℕ) where
    abbrev until : ℕ
    until = met_until core start end words count mine own from to

    meet_later : (y : ℕ) → meet mine own from to y ≡ true → from < at end y
    meet_later y t =
        lt_or_ge from (at end y) (λ l. l)
        (λ l. conflict t (meet_phase mine own from to y ∙ meets_after h mine own from to y l))

    meet_moved : (y d : ℕ) → meet mine own from to y ≡ true → from + d < at end y → meet mine own (from + d) (to + d) y ≡ true
    meet_moved y d t l =
        meet_phase mine own (from + d) (to + d) y
        ∙ meets_moved h mine own from to y d (sym (meet_phase mine own from to y) ∙ t) l

    end_met_lem : (y : ℕ) → meet mine own from to y ≡ true → end_met core start end words mine own from to y ≡ at end y
    unfolding end_met
    end_met_lem y t = rw t

    end_missed : (y : ℕ) → meet mine own from to y ≡ false → end_met core start end words mine own from to y ≡ 0
    unfolding end_met
    end_missed y t = rw t

    -- nothing is met by a window without words
    pub idle_until : own ≡ 0 → 0 ≡ until
    unfolding rival_by rival_of overlap_of
    idle_until z =
        let none : until ≤ 0 =
        max_le (end_met core start end words mine own from to) count 0
        (λ y _.
        omega (arith, end_missed y (rw (le-ltb 0 own (omega arith)) (and_no (not (eqb mine (at core y))))))) in
        omega arith

    -- nor one of phases that end before it
    pub met_none : ((y : ℕ) → y < count → at end y ≤ from) → 0 ≡ until
    met_none ends =
        let none : until ≤ 0 =
        max_le (end_met core start end words mine own from to) count 0
        (λ y l.
        omega (arith, end_missed y (meet_phase mine own from to y ∙ meets_after h mine own from to y (ends y l)))) in
        omega arith

    until_none : until ≡ 0 → (y : ℕ) → y < count → meet mine own from to y ≡ false
    until_none z y l =
        either (meet mine own from to y)
        (λ t.
        absurd (omega (arith, meet_later y t, end_met_lem y t, max_ge (end_met core start end words mine own from to) count y l)))
        (λ t. t)

    until_within : until ≤ top
    unfolding end_met
    until_within =
        max_mono (end_met core start end words mine own from to) (at end) count
        (λ y _. cond_le (meet mine own from to y) (le_refl (at end y)) zero-le)

    -- the phase with the greatest end that is met
    until_met : (until ≡ 0 → ⊥) → (y : ℕ) × (y < count) × (meet mine own from to y ≡ true) × (at end y ≡ until)
    until_met some =
        let w = max_found (end_met core start end words mine own from to) count (omega arith) in
        let y = w.0 in
        either (meet mine own from to y)
        (λ t. (y, w.1, t, sym (end_met_lem y t) ∙ w.2))
        (λ t. absurd (some (sym w.2 ∙ end_missed y t)))

    until_later : (until ≡ 0 → ⊥) → from < until
    until_later some = let w = until_met some in omega (arith, meet_later w.0 w.2, w.3)

    -- moved on to start before that end, the window meets it
    until_moved : (d : ℕ) → from + d < until → (y : ℕ) × (y < count) × (meet mine own (from + d) (to + d) y ≡ true)
    until_moved d l =
        let w = until_met (λ z. omega arith) in
        (w.0, w.1, meet_moved w.0 d w.2 (omega (arith, w.3)))

  -- ---- a task tried at r
  module _ (t : Task) (r : ℕ) where
    abbrev e : ℕ
    e = r + t.read

    abbrev w : ℕ
    w = e + t.cost

    abbrev f : ℕ
    f = w + t.write

    abbrev clash : ℕ → Bool
    clash = clash_by core start end words count t

    abbrev reads : ℕ
    reads = until t.mine t.reads r e

    abbrev writes : ℕ
    writes = until t.mine t.writes w f

    abbrev next : ℕ
    next = next_by core start end words count t r

    -- the next start is r where nothing is met
    pub next_none : next ≡ r → clash r ≡ false
    unfolding next_by clash_by
    next_none q =
        let x : reads ≡ 0 = same_or_not reads 0 (λ z. z) (λ z. absurd (omega (arith, until_later t.mine t.reads r e z))) in
        let y : writes ≡ 0 = same_or_not writes 0 (λ z. z) (λ z. absurd (omega (arith, until_later t.mine t.writes w f z))) in
        any_none _ count
        (λ k l. or_none _ _ (until_none t.mine t.reads r e x k l) (until_none t.mine t.writes w f y k l))

    pub next_later : (next ≡ r → ⊥) → r < next
    unfolding next_by
    next_later d = omega arith

    pub next_within : (b : ℕ) → top ≤ b → r ≤ b → next ≤ b
    unfolding next_by
    next_within b m l = omega (arith, until_within t.mine t.reads r e, until_within t.mine t.writes w f)

    -- all starts before it clash
    read_clash : (d : ℕ) → r + d < reads → clash (r + d) ≡ true
    unfolding clash_by
    read_clash d l =
        let m = until_moved t.mine t.reads r e d l in
        let same : e + d ≡ r + d + t.read = omega arith in
        any_here _ count m.0 m.1
        (or_left _ _ (subst (λ (x : ℕ). meet t.mine t.reads (r + d) x m.0 ≡ true) same m.2))

    write_clash : (d : ℕ) → w + d < writes → clash (r + d) ≡ true
    unfolding clash_by
    write_clash d l =
        let m = until_moved t.mine t.writes w f d l in
        let from : w + d ≡ r + d + t.read + t.cost = omega arith in
        let to : f + d ≡ r + d + t.read + t.cost + t.write = omega arith in
        any_here _ count m.0 m.1
        (or_right (meet t.mine t.reads (r + d) (r + d + t.read) m.0) _
        (subst₂ (λ (x y : ℕ). meet t.mine t.writes x y m.0 ≡ true) from to m.2))

    pub next_all : (s : ℕ) → r ≤ s → s < next → clash s ≡ true
    unfolding next_by
    next_all s l k =
        let back : r + (s - r) ≡ s = omega arith in
        subst (λ (x : ℕ). clash x ≡ true) back
        (lt_or_ge s reads
        (λ m. read_clash (s - r) (omega arith))
        (λ m. write_clash (s - r) (omega arith)))

  -- ---- the search: all starts that it passed clash
  module _ (t : Task) (from : ℕ) where
    abbrev pub Passed : ℕ → Type 0
    Passed r = (s : ℕ) → from ≤ s → s < r → clash_by core start end words count t s ≡ true

    -- one more
    pub passed_on :
        (r x : ℕ) → r ≤ max from top → Passed r → x ≡ next_by core start end words count t r → (x ≡ r → ⊥)
        → (r < x) × (x ≤ max from top) × Passed x
    passed_on r x within p q d = (
      omega (arith, next_later t r (λ z. d (q ∙ z))),
      omega (arith, next_within t r (max from top) (omega arith) within),
      λ s l k. lt_or_ge s r (λ m. p s l m) (λ m. next_all t r s m (subst (λ (y : ℕ). s < y) q k)),
    )

    pub passed_end :
        (r x : ℕ) → from ≤ r → Passed r → x ≡ next_by core start end words count t r → x ≡ r
        → LeastFree (clash_by core start end words count t) from r
    passed_end r x l p q z = record { later = l; clear = next_none t r (sym q ∙ z); least = p }

-- what the loop that looks for the greatest end meets
pub ruleset untils = (idle_until, met_none, join_step)

pub ruleset passing = (passed_on, passed_end)
