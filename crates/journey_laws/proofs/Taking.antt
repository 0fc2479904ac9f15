-- What the laws of a network say of an edge that is taken. All other proofs know the lookup by these alone.
use Rattle.std.proofs.Common.{◌≡◌, ℕ, ◌<◌, ◌≤◌, Some, None, Option, refl, ap, subst, arith}
use native.Mathlib.Decide.{dec_lt}
use Rattle.networks.specs.Networks.{Meaning, Lawful, Stops, InDay, NotBefore, NoLater, day_end}
use Rattle.journeys.specs.Walking.{Takes}

-- an edge that is taken has one end and one arrival
pub same_stop : {m : Meaning} {u t e v s w r : ℕ} → Takes m u t e v s → Takes m u t e w r → w ≡ v
same_stop {u = u} {v = v} {w = w} p q =
    let e : (u, w) ≡ (u, v) = cc (p.leads, q.leads) in ap (λ (x : ℕ × ℕ). x.1) e

pub same_time : {m : Meaning} {u t e v s w r : ℕ} → Takes m u t e v s → Takes m u t e w r → r ≡ s
same_time p q = cc (p.arrives, q.arrives)

module _ {m : Meaning} (law : Lawful m) where
  -- nobody arrives before the instant asked
  pub arrives_after : {u t e v s : ℕ} → Takes m u t e v s → t ≤ s
  arrives_after {t = t} {e = e} k = subst (NotBefore t) k.arrives (law.never_early e t)

  pub arrives_in_day : {u t e v s : ℕ} → Takes m u t e v s → s ≤ day_end
  arrives_in_day {t = t} {e = e} k = subst InDay k.arrives (law.in_day e t)

  -- who starts earlier arrives no later
  pub sooner : {u t e v s : ℕ} (r : ℕ) → r ≤ t → Takes m u t e v s → (b : ℕ) × Takes m u r e v b × (b ≤ s)
  sooner {u} {t} {e} {v} {s} r le k = at (m.lookup e r) refl (subst (NoLater (m.lookup e r)) k.arrives (law.monotone e r t le))
    where
      at : (o : Option ℕ) → m.lookup e r ≡ o → NoLater (m.lookup e r) (Some s) → (b : ℕ) × Takes m u r e v b × (b ≤ s)
      at None h n = absurd (subst (λ o. NoLater o (Some s)) h n)
      at (Some b) h n = (b, record { leads = k.leads; arrives = h }, subst (λ o. NoLater o (Some s)) h n)

  -- an edge that is there has its number below the count, and leads from stop to stop
  pub below_count : {u t e v s : ℕ} → Takes m u t e v s → e < m.count
  below_count {e = e} k = at (dec_lt e m.count)
    where
      at : Dec (e < m.count) → e < m.count
      at (yes h) = h
      at (no n) =
          let p = law.no_ends e (omega arith) in
          let l = k.leads in
          let z : ◌≡◌ {A = ℕ} 0 1 = cc in
          absurd (omega arith)

  pub two_stops : {u t e v s : ℕ} → Takes m u t e v s → (u < 256) × (v < 256)
  two_stops {e = e} k = subst Stops k.leads (law.stops e (below_count k))
