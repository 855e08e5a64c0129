-- The guarantee looks at a phase below the count only: what is kept of phases is kept of phases that agree with them there.
-- Assumes nothing.
use mathlib.Core.Path.{◌≡◌, refl, sym, subst, ap, ap₂, ◌∙◌}
use mathlib.Core.Bool.{true}
use mathlib.Core.List.{List, [], ◌∷◌}
use Prim.Native.Nat.{ℕ, ◌+◌, ◌*◌, ◌<◌}
use native.Mathlib.Omega.{arith}
use Rattle.model.specs.Below.{bit}
use Rattle.model.specs.Counts.{slots}
use Rattle.model.specs.Contention.{Phases, rivals}
use Rattle.model.specs.BusRule.{Use, Grant, last_served, pending, asks, choice_time, run, away, NextGrant, Log, idle, grant, finish, waits, granted}
use Rattle.model.specs.declared.Bus.{Bus}
use Rattle.model.proofs.Below.{sum_same, any_here}
use Rattle.model.proofs.BusRule.{asks_left, left_pending, busy_is, play_log, run_log}
use Rattle.model.proofs.Contention.{Agree, agree_sym, rival_same, rivals_same}
use Rattle.model.proofs.SameRun.{last_same, asks_same, time_same, next_same, play_same, run_same, finish_same, waits_same}
use Rattle.guarantee.specs.Waiting.{Test, counted, sits, sits_in, sits_on, sits_in_on}
use Rattle.guarantee.specs.Finer.{rival_at, slots_on}
use Rattle.guarantee.specs.Kept.{Kept, Guaranteed}
use Rattle.guarantee.proofs.Alike.{overlap_both}

-- ---- for other phases g of h's count
module _ (b : Bus) (h : Phases) (core start end words : ℕ → ℕ)
    (a : Agree h (record { count = h.count; core = core; start = start; end = end; words = words }))
    (u : Use) (served_in : u.served < b.cores) (core_within : (x : ℕ) → x < h.count → h.core x < b.cores)
  where
    abbrev g : Phases
    g = record { count = h.count; core = core; start = start; end = end; words = words }

    -- ---- a log of the other phases is a log of h, and the runs are the same
    last_alike : {l : List Grant} → Log b h u l → last_served b h u l ≡ last_served b g u l
    last_alike = last_same b h core start end words u a.core a.start served_in core_within

    next_alike : (l : List Grant) (f : Grant) → Log b h u l → NextGrant b g u l f → NextGrant b h u l f
    unfolding away
    next_alike l f w n =
        record {
          known = n.known;
          left = n.left;
          asked = omega (arith, n.asked, a.start f.phase n.known);
          free = n.free;
          prompt = λ x k m. rw (a.start x k) (n.prompt x k m);
          turn = λ x k m s. rw (last_alike w, a.core f.phase n.known, a.core x k) (n.turn x k m (omega (arith, a.start x k)));
          sized = n.sized;
        }

    log_alike : {l : List Grant} → Log b g u l → Log b h u l
    log_alike idle = idle
    log_alike (grant {l = l} {g = f} w n) = let v = log_alike w in grant v (next_alike l f v n)

    run_alike : run b h u ≡ run b g u
    run_alike = run_same b h core start end words u a.core a.start served_in core_within

    log : Log b h u (run b h u)
    log = run_log b h u served_in core_within

    -- ---- the same phases ask, and then the next choice is at the same time
    asks_alike : (l : List Grant) (time x : ℕ) → x < h.count → asks b g u l time x ≡ true → asks b h u l time x ≡ true
    asks_alike l time x k e = asks_same b h core start end words u a.core a.start served_in core_within l time x k ∙ e

    choice_alike : {l : List Grant} → Log b h u l → (time x : ℕ) → x < h.count → asks b h u l time x ≡ true
        → choice_time b h u l ≡ choice_time b g u l
    choice_alike {l} w time x k e =
        time_same b h core start end words u a.core a.start served_in core_within l w
        (any_here (pending b h u l) h.count x k (left_pending b h u l x (asks_left b h u l x time e)))

    -- ---- the same grants are counted
    counted_log : (p q : Test) → ((l : List Grant) (f : Grant) → f.phase < h.count → p l f ≡ q l f)
        → {l : List Grant} → Log b h u l → counted p l ≡ counted q l
    unfolding counted
    counted_log p q e idle = refl
    counted_log p q e (grant {l = l} {g = f} w n) = ap₂ ◌+◌ (counted_log p q e w) (ap bit (e l f n.known))

    counted_run : (p q : Test) → ((l : List Grant) (f : Grant) → f.phase < h.count → p l f ≡ q l f)
        → counted p (run b h u) ≡ counted q (run b g u)
    counted_run p q e = counted_log p q e log ∙ ap (counted q) run_alike

    granted_alike : (l : List Grant) → granted b h u l ≡ granted b g u l
    unfolding granted
    granted_alike [] = refl
    granted_alike (f ∷ l) = ap (λ (n : ℕ). n + f.size) (granted_alike l)

    module _ (x : ℕ) (k : x < h.count) where
      sits_alike : (l : List Grant) (f : Grant) → f.phase < h.count → sits b h u x l f ≡ sits b g u x l f
      unfolding sits pending
      sits_alike l f m = cc (a.core f.phase m, a.core x k, a.start x k)

      in_alike : (i : ℕ) → counted (sits_in b h u x i) (run b h u) ≡ counted (sits_in b g u x i) (run b g u)
      in_alike i = counted_run _ _ (λ l f m. cc (sits_alike l f m))

      on_alike : (c : ℕ) → counted (sits_on b h u x c) (run b h u) ≡ counted (sits_on b g u x c) (run b g u)
      on_alike c = counted_run _ _ (λ l f m. cc (sits_alike l f m, a.core f.phase m))

      in_on_alike : (i c : ℕ) → counted (sits_in_on b h u x i c) (run b h u) ≡ counted (sits_in_on b g u x i c) (run b g u)
      in_on_alike i c = counted_run _ _ (λ l f m. cc (sits_alike l f m, a.core f.phase m))

      slots_alike : (c : ℕ) → slots_on b h x c ≡ slots_on b g x c
      unfolding slots_on rival_at
      slots_alike c = sum_same _ _ h.count (λ y l. cc (rival_same h g a x y k l, a.core y l, a.words y l))

      finish_alike : finish b h u (run b h u) x ≡ finish b g u (run b g u) x
      finish_alike =
          finish_same b h core start end words u a.core a.start served_in core_within (run b h u) x k
          ∙ ap (λ (l : List Grant). finish b g u l x) run_alike

      waits_alike : waits b h u (run b h u) x ≡ waits b g u (run b g u) x
      waits_alike =
          waits_same b h core start end words u a.core a.start served_in core_within log x k
          ∙ ap (λ (l : List Grant). waits b g u l x) run_alike

      kept_alike :
          Kept b h u (rivals b h x) (slots b (h.words x) * rivals b h x) x
          → Kept b g u (rivals b g x) (slots b (g.words x) * rivals b g x) x
      kept_alike t =
          record {
            once = λ i c. rw (← (in_on_alike i c)) (t.once i c);
            strangers = λ i c none.
                sym (in_on_alike i c)
                ∙ t.strangers i c (λ y l e o. none y l (sym (a.core y l) ∙ e) (overlap_both b g h (agree_sym h g a) x y k l o));
            slotwise = λ i. rw (← (in_alike i), ← (rivals_same h g a b x k)) (t.slotwise i);
            together = rw (← waits_alike, ← (a.words x k)) (t.together ∙ sum_same _ _ _ (λ i _. in_alike i));
            waited = rw (← waits_alike, ← (rivals_same h g a b x k), ← (a.words x k)) t.waited;
            per_core = λ c. rw (← (on_alike c), ← (a.words x k), ← (slots_alike c)) (t.per_core c);
            sends = rw (← run_alike) t.sends;
            in_time = rw (← finish_alike, ← (a.end x k)) t.in_time;
          }

    guaranteed_same : Guaranteed b h u → Guaranteed b g u
    guaranteed_same t =
        record {
          keeps = λ x k. kept_alike x k (t.keeps x k);
          alone = λ i.
              rw (← (play_same b h core start end words u a.core a.start served_in core_within i))
              (λ time x y m k j e p q.
              let s = asks_alike _ time x k p in
              t.alone i time x y (rw (choice_alike (play_log b h u served_in core_within i) time x k s) m) k j
              (a.core x k ∙ e ∙ sym (a.core y j)) s (asks_alike _ time y j q));
          grant_one = λ l f f' w n n'. let v = log_alike w in t.grant_one l f f' v (next_alike l f v n) (next_alike l f' v n');
          log_one = λ l w all. t.log_one l (log_alike w) all ∙ run_alike;
          ends = cc (run_alike, next_same b h core start end words u a.core a.start served_in core_within (run b h u) log, t.ends);
          all_granted = cc (granted_alike (run b h u), run_alike, t.all_granted);
          all_busy = cc (busy_is b g u (run b g u), busy_is b h u (run b h u), granted_alike (run b h u), run_alike, t.all_busy);
        }

-- ---- for any phases that agree with h
module _ (b : Bus) (h g : Phases) (a : Agree h g) (u : Use) (served_in : u.served < b.cores)
    (core_within : (x : ℕ) → x < h.count → h.core x < b.cores)
  where
    pub guaranteed_alike : Guaranteed b h u → Guaranteed b g u
    guaranteed_alike t =
        subst
        (λ (n : ℕ). Guaranteed b (record { count = n; core = g.core; start = g.start; end = g.end; words = g.words }) u)
        a.count
        (guaranteed_same b h g.core g.start g.end g.words
        (record { count = refl; core = a.core; start = a.start; end = a.end; words = a.words })
        u served_in core_within t)
