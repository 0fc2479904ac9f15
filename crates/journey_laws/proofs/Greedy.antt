-- The first journey in rank begins with the least edge that can begin one of the least arrival, and goes on by the first in rank of the rest.
use Rattle.std.proofs.Common.{◌≡◌, ℕ, ◌<◌, ◌≤◌, ◌↔◌, List, [], ◌∷◌, sym, ◌∙◌, inl, inr, le_trans, arith}
use native.Mathlib.Decide.{dec_lt}
use Rattle.networks.specs.Networks.{Meaning, Lawful}
use Rattle.journeys.specs.Walking.{Takes}
use Rattle.journeys.specs.Journeys.{Unbarred}
use Rattle.journeys.specs.Rank.{Before, FirstInRank}
use Rattle.journey_laws.specs.Ways.{Nothing, Also, Walk, Onward, Usable, Chosen}
use Rattle.journey_laws.proofs.Taking.{same_stop, same_time}
use Rattle.journey_laws.proofs.Ways.{shorten}

pub any_edge : (es : List ℕ) → Unbarred Nothing es
any_edge [] = tt
any_edge (e ∷ es) = λ h. h

-- the first in rank has the least arrival
pub least_arrival : (set : ℕ → List ℕ → Type 0) (a : ℕ) (es : List ℕ) → FirstInRank set a es → (b : ℕ) (fs : List ℕ) → set b fs → a ≤ b
least_arrival set a es f b fs h = at (dec_lt b a)
  where
    at : Dec (b < a) → a ≤ b
    at (yes l) = absurd (f.none_before b fs h (inl l))
    at (no n) = omega arith

-- what is first among some is first among the same, said otherwise
pub same_first : (P Q : ℕ → List ℕ → Type 0) → ((a : ℕ) (es : List ℕ) → P a es ↔ Q a es) → (a : ℕ) (es : List ℕ) → FirstInRank P a es → FirstInRank Q a es
same_first P Q h a es f = record { member = (h a es).0 f.member; none_before = λ b fs q. f.none_before b fs ((h b fs).1 q) }

module _ (m : Meaning) (S B : ℕ → Type 0) (u t d latest : ℕ) where
  -- a journey is an edge that can begin one, and a journey on from its end
  pub usable : (a by e : ℕ) (es : List ℕ) → Onward m S B u t d latest a (e ∷ es) → a ≤ by → Usable m S B u t d by e
  usable a by e es j le =
      let (v, s, st, k, w) = j.way in
      record {
        stop = v;
        instant = s;
        takes = st;
        unbarred = j.unbarred;
        not_shut = k;
        leading = (a, es, record { way = w; unbarred = any_edge es; in_time = le });
      }

  pub rest_of : (a by e v s : ℕ) (es : List ℕ) → Takes m u t e v s → Onward m S B u t d latest a (e ∷ es) → a ≤ by → Onward m (Also u S) Nothing v s d by a es
  rest_of a by e v s es st j le =
      let (v', s', st', k, w) = j.way in
      record { way = rw (same_stop st st', same_time st st') at w; unbarred = any_edge es; in_time = le }

  pub begun_by : (a by e v s : ℕ) (es : List ℕ) → ¬ B e → Takes m u t e v s → ¬ Also u S v → by ≤ latest → Onward m (Also u S) Nothing v s d by a es → Onward m S B u t d latest a (e ∷ es)
  begun_by a by e v s es nb st k le j = record { way = (v, s, st, k, j.way); unbarred = nb; in_time = le_trans j.in_time le }

  -- the least edge that can begin a journey of the least arrival, and then the first in rank of the rest
  pub greedy : (A : ℕ) → A ≤ latest → ((b : ℕ) (fs : List ℕ) → Onward m S B u t d latest b fs → A ≤ b) →
      (e v s : ℕ) → Chosen m S B u t d A e v s →
      (b : ℕ) (fs : List ℕ) → FirstInRank (Onward m (Also u S) Nothing v s d A) b fs → FirstInRank (Onward m S B u t d latest) A (e ∷ fs)
  greedy A le low e v s c b fs f = record { member = rw eq at whole; none_before = no_better }
    where
      whole : Onward m S B u t d latest b (e ∷ fs)
      whole = begun_by b A e v s fs c.unbarred c.takes c.not_shut le f.member

      eq : b ≡ A
      eq = let h = low b (e ∷ fs) whole in let l = f.member.in_time in omega arith

      no_better : (x : ℕ) (gs : List ℕ) → Onward m S B u t d latest x gs → ¬ Before x gs A (e ∷ fs)
      no_better x gs j (inl l) = let h = low x gs j in omega arith
      no_better x [] j (inr (p, l)) = l
      no_better x (g ∷ gs) j (inr (p, inl l)) = let h = c.least g (usable x A g gs j (omega arith)) in omega arith
      no_better x (g ∷ gs) j (inr (p, inr (q, l))) =
          f.none_before x gs (rest_of x A e v s gs c.takes (rw q at j) (omega arith)) (inr (p ∙ sym eq, l))

  -- a walk that begins as a detour may and does not come back to where it began can be made a journey that arrives no later
  pub onward_of_walk : Lawful m → (a e v s : ℕ) (es : List ℕ) → ¬ B e → Takes m u t e v s → ¬ Also u S v → Walk m (Also u S) v s d a es → a ≤ latest →
      (b : ℕ) × (fs : List ℕ) × (b ≤ a) × Onward m S B u t d latest b (e ∷ fs)
  onward_of_walk law a e v s es nb st k w le =
      let (fs, b, lb, y) = shorten m law (Also u S) v s d a es w in
      (b, fs, lb, record { way = (v, s, st, k, y); unbarred = nb; in_time = le_trans lb le })
