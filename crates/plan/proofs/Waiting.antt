-- What `list_order` keeps of the tasks, and the list order that it makes by it. Assumes nothing.
use mathlib.Core.Path.{◌≡◌, refl, sym, ap, ◌∙◌}
use mathlib.Core.Bool.{Bool, true, false, cond, not, ◌&&◌}
use mathlib.Core.List.{List, [], ◌∷◌, ◌++◌}
use Prim.Native.Nat.{ℕ, zero, suc, ◌+◌, ◌-◌, ◌≤◌, ◌<◌}
use native.Mathlib.Nat.{zero-add}
use native.Mathlib.Numerals.{add-one}
use native.Mathlib.Omega.{arith}
use lib.Dec.{ltb, eqb}
use lib.ListN.{length, set, replicate, length-replicate, length-set}
use lib.Seq.{get_or-set_same, get_or-set_other}
use borrow.Author.Tests.{eq-eqb, ne_eqb, lt-ltb, le-ltb, ltb-true, ltb-false, eqb-true, not-true, not-false}
use Rattle.std.proofs.lemmas.List.{get_or-replicate}
use Rattle.std.specs.List.Sorted.{IsPartitionPoint}
use Rattle.model.specs.Below.{join_below, at, bit, count_below, all_below, first_below}
use Rattle.model.specs.Plan.{Plan, tasks, edges, source, target, key_of}
use Rattle.model.specs.Graph.{place_of, taken, ready, Listing, next_task, take_next, listed, list_order, left_over}
use Rattle.model.proofs.Tests.{either, conflict, lt_or_ge, same_or_not, below_suc, and_both, and_no}
use Rattle.model.proofs.Graph.{taken_place, taken_new, taken_old, ready_untaken, next_ready_lem, listing}
use Rattle.model.proofs.Below.{sum_same, sum_add, sum_zero, sum_ge, first_same, all_each, all_not}
use Rattle.model.proofs.Plan.{snoc_length}
use Rattle.plan.specs.Planned.{filled}
use Rattle.plan.proofs.Fields.{filled_none, filled_more}
use Rattle.plan.specs.Order.{graph_of, Edges, Parts, Raised, edges_to, edges_between, open_to, left_by, next_by}

-- ---- nothing is taken, nothing is counted
none_taken : (i : ℕ) → taken [] i ≡ false
none_taken i = le-ltb (place_of [] i) 0 (omega arith)

count_none : (p q : ℕ → Bool) (m : ℕ) → ((e : ℕ) → e < m → q e ≡ not (p e)) → eqb (1 + count_below p m) 1 ≡ all_below q m
count_none p q m h =
    either (all_below q m)
    (λ t.
    rw t
    (eq-eqb (1 + count_below p m) 1
    (omega (arith, sum_zero (λ e. bit (p e)) m (λ e l. ap bit (not-true (p e) (sym (h e l) ∙ all_each q m t e l)))))))
    (λ f.
    let w = all_not q m f in
    rw f
    (ne_eqb (1 + count_below p m) 1
    (λ z. omega (arith, sum_ge (λ e. bit (p e)) m w.0 w.1, ap bit (not-false (p w.0) (sym (h w.0 w.1) ∙ w.2))))))

-- ---- a graph stands for the plans that have its tasks and edges
module _ (n : ℕ) (sources targets : List ℕ) where
  abbrev m : ℕ
  m = length sources

  abbrev graph : Plan
  graph = graph_of n sources targets

  pub graph_tasks : tasks graph ≡ n
  unfolding graph_of
  graph_tasks = length-replicate n 0

  -- what is kept of a task
  left_taken : (o : List ℕ) (j : ℕ) → taken o j ≡ true → left_by m sources targets o j ≡ 0
  unfolding left_by
  left_taken o j t = rw t

  left_open : (o : List ℕ) (j : ℕ) → taken o j ≡ false → left_by m sources targets o j ≡ 1 + open_to m sources targets o j
  unfolding left_by
  left_open o j t = rw t

  -- of the edges to j from tasks that are not taken, those from i
  open_split : (o : List ℕ) (i j : ℕ) → taken o i ≡ false
      → open_to m sources targets o j ≡ open_to m sources targets (o ++ (i ∷ [])) j + edges_between m sources targets i j
  unfolding open_to edges_between
  open_split o i j u =
      sum_same _ (λ e. bit (not (taken (o ++ (i ∷ [])) (at sources e)) && eqb (at targets e) j) + bit (eqb (at sources e) i && eqb (at targets e) j)) m
      (λ e h.
      same_or_not (at sources e) i
      (λ q. rw (q, u, taken_new o i u, eq-eqb i i refl) (omega arith))
      (λ d. rw (taken_old o i (at sources e) d, ne_eqb (at sources e) i d) (omega arith)))
      ∙ sum_add (λ e. bit (not (taken (o ++ (i ∷ [])) (at sources e)) && eqb (at targets e) j)) (λ e. bit (eqb (at sources e) i && eqb (at targets e) j)) m

  pub record Kept (o left : List ℕ) : Type 0 where
    pub long : length left ≡ 64
    pub each : (j : ℕ) → j < n → at left j ≡ left_by m sources targets o j

  graph_edges : edges graph ≡ m
  unfolding graph_of
  graph_edges = refl

  module _ (ok : Edges n sources targets) where
    -- ---- edges rise
    key_less : (e k : ℕ) → e < k → k < m → key_of (at sources e) (at targets e) < key_of (at sources k) (at targets k)
    key_less e zero h l = absurd (omega arith)
    key_less e (suc k) h l =
        let last : key_of (at sources k) (at targets k) < key_of (at sources (suc k)) (at targets (suc k)) = rw add-one at (ok.rising k (omega arith)) in
        below_suc e k h (λ b. omega (arith, key_less e k b (omega arith))) (λ q. rw q last)

    pub sources_rise : (d e : ℕ) → d ≤ e → e < m → at sources d ≤ at sources e
    sources_rise d e h l =
        same_or_not d e
        (λ q. rw q (omega arith))
        (λ n. omega (arith, key_less d e (omega arith) l, ok.targets_low e l, ok.few_tasks))

    -- as many edges end at a task as there are tasks, at most: one from each
    to_le : (j k v : ℕ) → k ≤ m → ((e : ℕ) → e < k → at targets e ≡ j → at sources e < v) → edges_to k targets j ≤ v
    unfolding edges_to join_below
    to_le j zero v h low = omega arith
    to_le j (suc k) v h low =
        same_or_not (at targets k) j
        (λ q.
        omega (
          arith,
          ap bit (eq-eqb (at targets k) j q),
          low k (omega arith) q,
          to_le j k (at sources k) (omega arith) (λ e l p. omega (arith, key_less e k l (omega arith))),
        ))
        (λ d. omega (arith, ap bit (ne_eqb (at targets k) j d), to_le j k v (omega arith) (λ e l p. low e (omega arith) p)))

    pub to_room : (j : ℕ) → at (replicate 64 1) j + edges_to m targets j < 256
    to_room j = omega (arith, ones 64 j, to_le j m n (omega arith) (λ e l p. ok.sources_low e l), ok.few_tasks)
      where
        ones : (k j : ℕ) → at (replicate k 1) j ≤ 1
        ones zero j = omega arith
        ones (suc k) zero = omega arith
        ones (suc k) (suc j) = ones k j

    -- ---- at the start
    all_open : (j : ℕ) → open_to m sources targets [] j ≡ edges_to m targets j
    unfolding open_to edges_to
    all_open j =
        sum_same (λ e. bit (not (taken [] (at sources e)) && eqb (at targets e) j)) (λ e. bit (eqb (at targets e) j)) m
        (λ e h. ap (λ (b : Bool). bit (not b && eqb (at targets e) j)) (none_taken (at sources e)))

    pub kept_none : (left : List ℕ) → Raised (edges_to m targets) (replicate 64 1) left → Kept [] left
    kept_none left r =
        record {
          long = r.long ∙ length-replicate {A = ℕ} 64 1;
          each =
              λ j l.
              omega (
                arith,
                r.each j,
                get_or-replicate {A = ℕ} 64 j 1 0 (omega (arith, l, ok.few_tasks)),
                left_open [] j (none_taken j),
                all_open j,
              );
        }

    module _ (o left : List ℕ) (w : Kept o left) where
      -- ---- ready is 1
      passes_same : (i e : ℕ) → e < m
          → cond (eqb (target graph e) i) (taken o (source graph e)) true ≡ not (not (taken o (at sources e)) && eqb (at targets e) i)
      unfolding graph_of
      passes_same i e h = flip (taken o (at sources e)) (eqb (at targets e) i)
        where
          flip : (a b : Bool) → cond b a true ≡ not (not a && b)
          flip true true = refl
          flip true false = refl
          flip false true = refl
          flip false false = refl

      free_same : (i : ℕ) → eqb (1 + open_to m sources targets o i) 1 ≡ all_below (λ e. cond (eqb (target graph e) i) (taken o (source graph e)) true) m
      unfolding open_to
      free_same i = count_none (λ e. not (taken o (at sources e)) && eqb (at targets e) i) _ m (passes_same i)

      ready_same : (i : ℕ) → i < n → eqb (at left i) 1 ≡ ready graph o i
      unfolding ready
      ready_same i l =
          rw (w.each i l)
          (either (taken o i)
          (λ t. rw (left_taken o i t, t))
          (λ f. rw (left_open o i f, f, graph_edges) (free_same i)))

      pub next_same : next_by n left ≡ next_task graph o
      unfolding next_by next_task
      next_same = first_same _ _ n ready_same ∙ ap (first_below (ready graph o)) (sym graph_tasks)

      pub none_next : next_by n left ≡ n → take_next graph o ≡ o
      unfolding take_next
      none_next e = rw (← next_same, e, graph_tasks, le-ltb n n (omega arith))

      -- ---- one task more
      module _ (i : ℕ) (ei : i ≡ next_by n left) (h : i < n) where
        is_next : i ≡ next_task graph o
        is_next = ei ∙ next_same

        pub taken_next : take_next graph o ≡ o ++ (i ∷ [])
        unfolding take_next
        taken_next = rw (← is_next, graph_tasks, lt-ltb i n h)

        untaken : taken o i ≡ false
        untaken = ready_untaken graph o i (rw is_next (next_ready_lem graph o (rw (← is_next, graph_tasks) h)))

        -- no edge leads from it to a task that is taken
        between_taken : Listing graph o → (j : ℕ) → taken o j ≡ true → edges_between m sources targets i j ≡ 0
        unfolding edges_between graph_of
        between_taken l j t =
            sum_zero _ m
            (λ e k.
            either (eqb (at sources e) i && eqb (at targets e) j)
            (λ b.
            let both = and_both (eqb (at sources e) i) (eqb (at targets e) j) b in
            let from : source graph e ≡ i = eqb-true (at sources e) i both.0 in
            let to : taken o (target graph e) ≡ true = ap (λ (x : ℕ). taken o x) (eqb-true (at targets e) j both.1) ∙ t in
            let less = l.rises e (omega (arith, k, graph_edges)) to in
            let s : taken o (source graph e) ≡ true = lt-ltb (place_of o (source graph e)) (length o) (omega (arith, less, taken_place o (target graph e) to)) in
            conflict (sym (ap (λ (x : ℕ). taken o x) from) ∙ s) untaken)
            (λ f. ap bit f))

        between_far : (j : ℕ) → n ≤ j → edges_between m sources targets i j ≡ 0
        unfolding edges_between
        between_far j far =
            sum_zero _ m
            (λ e k.
            ap (λ (b : Bool). bit (eqb (at sources e) i && b)) (ne_eqb (at targets e) j (λ q. omega (arith, ok.targets_low e k)))
            ∙ ap bit (and_no (eqb (at sources e) i)))

        pub between_room : Listing graph o → (j : ℕ) → edges_between m sources targets i j ≤ at left j
        between_room l j =
            lt_or_ge j n
            (λ k.
            either (taken o j)
            (λ t. omega (arith, between_taken l j t))
            (λ f. omega (arith, w.each j k, left_open o j f, open_split o i j untaken)))
            (λ far. omega (arith, between_far j far))

        pub kept_next : (mid : List ℕ) → Raised (edges_between m sources targets i) mid left → Kept (o ++ (i ∷ [])) (set mid i 0)
        kept_next mid r =
            record {
              long = simp length-set (sym r.long ∙ w.long);
              each =
                  λ j l.
                  same_or_not j i
                  (λ q. rw (q, get_or-set_same mid i 0 0 (omega (arith, r.long, w.long, h, ok.few_tasks))) (sym (left_taken (o ++ (i ∷ [])) i (taken_new o i untaken))))
                  (λ d.
                  let old : taken (o ++ (i ∷ [])) j ≡ taken o j = taken_old o i j d in
                  rw (get_or-set_other mid i j 0 0 d)
                  (either (taken o j)
                  (λ t. omega (arith, r.each j, w.each j l, left_taken o j t, left_taken (o ++ (i ∷ [])) j (old ∙ t)))
                  (λ f. omega (arith, r.each j, w.each j l, left_open o j f, left_open (o ++ (i ∷ [])) j (old ∙ f), open_split o i j untaken))));
            }

-- ---- the loop of `list_order`, after r tasks were taken
pub record Ordered (n : ℕ) (sources targets order₀ order left : List ℕ) (r : ℕ) : Type 0 where
  pub within : r ≤ n
  pub long : length (listed (graph_of n sources targets) r) ≡ r
  pub ordered : order ≡ filled (listed (graph_of n sources targets) r) order₀
  pub kept : Kept n sources targets (listed (graph_of n sources targets) r) left

-- the list does not grow any more
listed_stays : (p : Plan) (r : ℕ) → take_next p (listed p r) ≡ listed p r → (k : ℕ) → listed p (k + r) ≡ listed p r
unfolding listed
listed_stays p r e zero = rw (zero-add r)
listed_stays p r e (suc k) = let q : suc k + r ≡ suc (k + r) = omega arith in rw (q, listed_stays p r e k) e

module _ (n : ℕ) (s t : List ℕ) (ok : Edges n s t) where
  pub ordered_start : (order left : List ℕ) → Raised (edges_to (length s) t) (replicate 64 1) left → Ordered n s t order order left 0
  unfolding listed
  ordered_start order left k =
      record { within = omega arith; long = refl; ordered = filled_none order; kept = kept_none n s t ok left k }

module _ (n : ℕ) (s t : List ℕ) (ok : Edges n s t) (order₀ order left : List ℕ) (r : ℕ) (w : Ordered n s t order₀ order left r) where
  abbrev g : Plan
  g = graph_of n s t

  module _ (i : ℕ) (ei : i ≡ next_by n left) (hi : i < n) where
    pub ordered_room : (j : ℕ) → edges_between (length s) s t i j ≤ at left j
    ordered_room = between_room n s t ok (listed g r) left w.kept i ei hi (listing g r)

    pub ordered_next : r < n → (mid : List ℕ) → Raised (edges_between (length s) s t i) mid left
        → Ordered n s t order₀ (set order r i) (set mid i 0) (r + 1)
    unfolding listed
    ordered_next hr mid k =
        let more : listed g (suc r) ≡ listed g r ++ (i ∷ []) = taken_next n s t ok (listed g r) left w.kept i ei hi in
        let one : listed g (r + 1) ≡ listed g r ++ (i ∷ []) = ap (listed g) (add-one r) ∙ more in
        record {
          within = omega arith;
          long = ap length one ∙ omega (arith, snoc_length (listed g r) i, w.long);
          ordered = rw (one, w.ordered) (filled_more (listed g r) order₀ r i (sym w.long));
          kept = rw one (kept_next n s t ok (listed g r) left w.kept i ei hi mid k);
        }

  -- the end: no task is ready, or all are taken
  abbrev Ends : Type 0
  Ends = (r ≡ length (list_order g)) × (order ≡ filled (list_order g) order₀)

  ends : list_order g ≡ listed g r → Ends
  ends e = (rw e (sym w.long), rw e w.ordered)

  pub ordered_stuck : next_by n left ≡ n → Ends
  unfolding list_order
  ordered_stuck h =
      let same = listed_stays g r (none_next n s t ok (listed g r) left w.kept h) (n - r) in
      let q : n - r + r ≡ n = omega (arith, w.within) in
      ends (ap (listed g) (graph_tasks n s t ∙ sym q) ∙ same)

  pub ordered_end : n ≤ r → Ends
  unfolding list_order
  ordered_end h =
      let q : n ≡ r = omega (arith, w.within) in
      ends (ap (listed g) (graph_tasks n s t ∙ q))

-- ---- a plan and the graph of its edges have one list order
module _ (p : Plan) where
  abbrev its : Plan
  its = graph_of (tasks p) p.sources p.targets

  ready_graph : (o : List ℕ) (i : ℕ) → ready p o i ≡ ready its o i
  unfolding ready graph_of
  ready_graph o i = refl

  next_graph : (o : List ℕ) → next_task p o ≡ next_task its o
  unfolding next_task
  next_graph o =
      first_same _ _ (tasks p) (λ i l. ready_graph o i)
      ∙ ap (first_below (ready its o)) (sym (graph_tasks (tasks p) p.sources p.targets))

  take_graph : (o : List ℕ) → take_next p o ≡ take_next its o
  unfolding take_next
  take_graph o = rw (next_graph o, graph_tasks (tasks p) p.sources p.targets)

  listed_graph : (k : ℕ) → listed p k ≡ listed its k
  unfolding listed
  listed_graph zero = refl
  listed_graph (suc k) = take_graph (listed p k) ∙ ap (take_next its) (listed_graph k)

  pub order_graph : list_order p ≡ list_order its
  unfolding list_order
  order_graph = listed_graph (tasks p) ∙ ap (listed its) (sym (graph_tasks (tasks p) p.sources p.targets))

  pub left_graph : left_over p ≡ left_over its
  unfolding left_over
  left_graph = rw (order_graph, graph_tasks (tasks p) p.sources p.targets)

-- some task is left over
pub left_over_lem : (n : ℕ) (s t : List ℕ) → left_over (graph_of n s t) ≡ ltb (length (list_order (graph_of n s t))) n
unfolding left_over
left_over_lem n s t = rw (graph_tasks n s t)

-- where the first edge from task i or from a task above it stands
pub parts_at : (n : ℕ) (s t : List ℕ) → Edges n s t → (i e : ℕ) → e ≤ length s → IsPartitionPoint (λ x. ltb x i ≡ true) (λ x. ltb x i ≡ false) s e → Parts s i e
parts_at n s t ok i e h p = record { within = h; below = λ k l. ltb-true (at s k) i (p.0 k 0 (omega arith) l); above = λ k a b. ltb-false (at s k) i (p.1 k 0 a b) }
