-- A day table that breaks no rule of filling keeps the laws of a network.
use Rattle.std.specs.Prelude.{◌≡◌, ℕ, ◌+◌, ◌-◌, ◌<◌, ◌≤◌, List, length, Some, None, Option, refl}
use Rattle.std.proofs.Common.{sym, subst, inl, inr, arith}
use Rattle.std.proofs.lemmas.Bool.Decides.{nat_tests}
use Rattle.std.proofs.lemmas.Bool.{cases_lt}
use Rattle.networks.specs.Networks.{Lawful, Stops, InDay, NotBefore, NoLater, day_end}
use Rattle.refusals.specs.declared.TableRefusal.{TableRefusal}
use Rattle.refusals.specs.declared.TableRefusal.TheVariants.{ConnectionTimes}
use Rattle.timetable.specs.declared.records.Connection.{Connection}
use Rattle.timetable.specs.declared.records.Footpath.{Footpath}
use Rattle.timetable.specs.DayTables.{connection, footpath, ride, on_foot, at_edge, day_table, Breaks, ConnectionStopsFit, FootpathStopsFit}

-- a connection that keeps its rule about times
pub record Timely (c : Connection) : Type 0 where
  pub forward : c.departure < c.arrival
  pub in_day : c.arrival ≤ day_end

ride_mono : (c : Connection) (s t : ℕ) → s ≤ t → NoLater (ride c s) (ride c t)
ride_mono c s t h = grind (arith, nat_tests)

ride_early : (c : Connection) (t : ℕ) → Timely c → NotBefore t (ride c t)
ride_early c t h = let p = h.forward in grind (arith, nat_tests)

ride_day : (c : Connection) (t : ℕ) → Timely c → InDay (ride c t)
ride_day c t h = let p = h.in_day in grind (arith, nat_tests)

ride_past : (c : Connection) (t : ℕ) → Timely c → day_end < t → ride c t ≡ None
ride_past c t h l = let p = h.forward in let q = h.in_day in grind (arith, nat_tests)

foot_mono : (f : Footpath) (s t : ℕ) → s ≤ t → NoLater (on_foot f s) (on_foot f t)
foot_mono f s t h = grind (arith, nat_tests)

foot_early : (f : Footpath) (t : ℕ) → NotBefore t (on_foot f t)
foot_early f t = grind (arith, nat_tests)

foot_day : (f : Footpath) (t : ℕ) → InDay (on_foot f t)
foot_day f t = grind (arith, nat_tests)

foot_past : (f : Footpath) (t : ℕ) → day_end < t → on_foot f t ≡ None
foot_past f t h = grind (arith, nat_tests)

module _ (cs : List Connection) (fs : List Footpath) where
  -- what holds of every connection, of every footpath and of no edge holds of every edge number
  each_edge : {R : Type 0} (f : Connection → Option R) (g : Footpath → Option R) (P : Option R → Type 0) (e : ℕ) →
      (e < length cs → P (f (connection cs e))) → (e - length cs < length fs → P (g (footpath fs (e - length cs)))) → (length cs + length fs ≤ e → P None) →
      P (at_edge f g cs fs e)
  each_edge {R} f g P e a b c =
      elim (cases_lt e (length cs)) [
        | inl l ↦ let z : at_edge f g cs fs e ≡ f (connection cs e) = grind (arith, nat_tests) in subst P (sym z) (a l)
        | inr h ↦
            elim (cases_lt (e - length cs) (length fs)) [
              | inl l ↦ let z : at_edge f g cs fs e ≡ g (footpath fs (e - length cs)) = grind (arith, nat_tests) in subst P (sym z) (b l)
              | inr k ↦ let z : at_edge f g cs fs e ≡ None = grind (arith, nat_tests) in subst P (sym z) (c (omega arith))
            ]
      ]

  -- two lookups of one edge
  both_edges : (e s t : ℕ) → s ≤ t → NoLater ((day_table cs fs).lookup e s) ((day_table cs fs).lookup e t)
  both_edges e s t h =
      elim (cases_lt e (length cs)) [
        | inl l ↦ let k = ride_mono (connection cs e) s t h in grind (arith, nat_tests)
        | inr g ↦
            elim (cases_lt (e - length cs) (length fs)) [
              | inl l ↦ let k = foot_mono (footpath fs (e - length cs)) s t h in grind (arith, nat_tests)
              | inr k ↦ grind (arith, nat_tests)
            ]
      ]

  pub table_lawful : length cs ≤ 3072 → length fs ≤ 1024 → ((r : TableRefusal) → Breaks cs fs r → ⊥) → ConnectionStopsFit cs → FootpathStopsFit fs → Lawful (day_table cs fs)
  table_lawful p q kept a b = record {
    few = omega arith;
    stops = λ e h. each_edge (λ c. Some (c.from, c.to)) (λ f. Some (f.from, f.to)) Stops e (a e) (b (e - length cs)) (λ l. absurd (omega arith));
    no_ends = λ e h. each_edge (λ c. Some (c.from, c.to)) (λ f. Some (f.from, f.to)) (λ o. o ≡ None) e (λ l. absurd (omega arith)) (λ l. absurd (omega arith)) (λ l. refl);
    no_edge = λ e t h. each_edge (λ c. ride c t) (λ f. on_foot f t) (λ o. o ≡ None) e (λ l. absurd (omega arith)) (λ l. absurd (omega arith)) (λ l. refl);
    past_day = λ e t h. each_edge (λ c. ride c t) (λ f. on_foot f t) (λ o. o ≡ None) e (λ l. ride_past (connection cs e) t (timely e l) h) (λ l. foot_past (footpath fs (e - length cs)) t h) (λ l. refl);
    in_day = λ e t. each_edge (λ c. ride c t) (λ f. on_foot f t) InDay e (λ l. ride_day (connection cs e) t (timely e l)) (λ l. foot_day (footpath fs (e - length cs)) t) (λ l. tt);
    never_early = λ e t. each_edge (λ c. ride c t) (λ f. on_foot f t) (NotBefore t) e (λ l. ride_early (connection cs e) t (timely e l)) (λ l. foot_early (footpath fs (e - length cs)) t) (λ l. tt);
    monotone = both_edges;
  } where
    timely : (k : ℕ) → k < length cs → Timely (connection cs k)
    timely k l = record {
      forward = elim (cases_lt (connection cs k).departure (connection cs k).arrival) [ inl h ↦ h | inr h ↦ absurd (kept (ConnectionTimes k) (l, inl h)) ];
      in_day = elim (cases_lt day_end (connection cs k).arrival) [ inl h ↦ absurd (kept (ConnectionTimes k) (l, inr h)) | inr h ↦ h ];
    }
