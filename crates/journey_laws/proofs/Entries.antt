-- The theorems, in the words of the question.
use Rattle.std.proofs.Common.{◌≡◌, ℕ, ◌<◌, ◌≤◌, ◌⊎◌, ◌↔◌, List, [], ◌∷◌, ◌++◌, length, take, sym, ◌∙◌, subst, inl, inr}
use Rattle.networks.specs.Networks.{Meaning, Lawful}
use Rattle.journeys.specs.declared.question.Question.{Question}
use Rattle.journeys.specs.Journeys.{In, Simple, Unlisted}
use Rattle.journeys.specs.Rank.{Before, FirstInRank}
use Rattle.journey_laws.specs.Ways.{Nothing, Way}
use Rattle.journey_laws.specs.Branching.{Place}
use Rattle.journey_laws.specs.Theorems.{Ranked, SimpleEntries, Leaves, Branches}
use Rattle.journey_laws.proofs.Ways.{no_longer, one_arrival}
use Rattle.journey_laws.proofs.Ranks.{before_irrefl, before_trans, rank_total}
use Rattle.journey_laws.proofs.Greedy.{same_first}
use Rattle.journey_laws.proofs.Bridge.{simple_onward, way_of_simple}
use Rattle.journey_laws.proofs.Short.{at_most_255}
use Rattle.journey_laws.proofs.Diverging.{Fresh, Touched, covers, not_there, one_place}
use Rattle.journey_laws.proofs.Places.{begun?, next_found, none_left}

module _ (m : Meaning) (q : Question) where
  pub total : (a b : ℕ) (x y : List ℕ) → Simple m q a x → Simple m q b y → Before a x b y ⊎ ((x ≡ y) ⊎ Before b y a x)
  total a b x y j k = rank_total m Nothing q.origin q.start q.destination a b x y (way_of_simple m q a x j) (way_of_simple m q b y k)

  pub ranked : Ranked m q
  ranked = record { irreflexive = before_irrefl; transitive = before_trans; total = total }

  pub none_begins : (a b : ℕ) (x : List ℕ) (e : ℕ) (r : List ℕ) → Simple m q a x → ¬ Simple m q b (x ++ (e ∷ r))
  none_begins a b x e r j k = no_longer m Nothing q.origin q.start q.destination a b x e r (way_of_simple m q a x j) (way_of_simple m q b (x ++ (e ∷ r)) k)

  pub same_arrival : (a b : ℕ) (x : List ℕ) → Simple m q a x → Simple m q b x → a ≡ b
  same_arrival a b x j k = one_arrival m Nothing q.origin q.start q.destination a b x (way_of_simple m q a x j) (way_of_simple m q b x k)

  pub one_first : (ys : List (List ℕ)) (a b : ℕ) (x y : List ℕ) → FirstInRank (Unlisted m q ys) a x → FirstInRank (Unlisted m q ys) b y → (a ≡ b) × (x ≡ y)
  one_first ys a b x y f g = at (total a b x y f.member.simple g.member.simple)
    where
      at : Before a x b y ⊎ ((x ≡ y) ⊎ Before b y a x) → (a ≡ b) × (x ≡ y)
      at (inl h) = absurd (g.none_before a x f.member h)
      at (inr (inl h)) = (same_arrival a b x f.member.simple (subst (Simple m q b) (sym h) g.member.simple), h)
      at (inr (inr h)) = absurd (f.none_before b y g.member h)

  pub few_edges : Lawful m → (a : ℕ) (x : List ℕ) → Simple m q a x → length x ≤ 255
  few_edges law a x j = at_most_255 m law Nothing q.origin q.start q.destination a x q.stops.0 (way_of_simple m q a x j)

touched : (E : List ℕ → Type 0) (p : List ℕ) → Place E p → Touched E p
touched E p (inl h) = inl h
touched E p (inr (g, (y, h))) = inr (g ∷ y, h)

module _ (m : Meaning) (q : Question) (ys : List (List ℕ)) (entries : SimpleEntries m q ys) where
  pub ways : (y : List ℕ) → In y ys → (b : ℕ) × Way m Nothing q.origin q.start q.destination b y
  ways y h = let (b, j) = entries y h in (b, way_of_simple m q b y j)

  pub fresh : (a : ℕ) (x : List ℕ) → Fresh m (λ y. In y ys) q.origin q.start q.destination q.latest a x ↔ Unlisted m q ys a x
  fresh a x = (there, back)
    where
      there : Fresh m (λ y. In y ys) q.origin q.start q.destination q.latest a x → Unlisted m q ys a x
      there j = record { simple = (simple_onward m q a x).1 j.journey; not_listed = j.no_entry }

      back : Unlisted m q ys a x → Fresh m (λ y. In y ys) q.origin q.start q.destination q.latest a x
      back j = record { journey = (simple_onward m q a x).0 j.simple; no_entry = j.not_listed }

  pub leaves_once : (a : ℕ) (x : List ℕ) → Unlisted m q ys a x → (p : List ℕ) × Leaves ys x p × ((p' : List ℕ) → Leaves ys x p' → p' ≡ p)
  leaves_once a x j = at (covers m (λ y. In y ys) q.origin q.start q.destination q.latest q.apart ways (begun? ys) a x ((fresh a x).1 j))
    where
      one : (p p' : List ℕ) → Leaves ys x p → Leaves ys x p' → p' ≡ p
      one p p' l l' =
          one_place (λ y. In y ys) p' p l'.edge l.edge l'.rest l.rest (sym l'.is ∙ l.is)
          (touched (λ y. In y ys) p' l'.place) l'.apart (touched (λ y. In y ys) p l.place) l.apart

      at : (p : List ℕ) × (r : List ℕ) × (x ≡ p ++ r) × Branches m q ys p a r → (p : List ℕ) × Leaves ys x p × ((p' : List ℕ) → Leaves ys x p' → p' ≡ p)
      at (p, [], e, b) =
          absurd (not_there m (λ y. In y ys) q.origin q.start q.destination q.latest q.apart ways p b.behind b.stop b.instant b.through b.place b.onward.way.0)
      at (p, f ∷ r, e, b) =
          let l : Leaves ys x p = record { place = b.place; edge = f; rest = r; is = e; apart = b.onward.unbarred } in
          (p, l, λ p' l'. one p p' l l')

  pub next_is_least : (a : ℕ) (x : List ℕ) → Unlisted m q ys a x → ((b : ℕ) (r : List ℕ) → Branches m q ys [] b r → ¬ Before b r a x) →
      ((y : List ℕ) → In y ys → (k : ℕ) → k < length y → (b : ℕ) (r : List ℕ) → Branches m q ys (take k y) b r → ¬ Before b (take k y ++ r) a x) →
      FirstInRank (Unlisted m q ys) a x
  next_is_least a x j z h =
      same_first (Fresh m (λ y. In y ys) q.origin q.start q.destination q.latest) (Unlisted m q ys) fresh a x
      (next_found m ys q.origin q.start q.destination q.latest q.apart ways a x ((fresh a x).1 j) z h)

  -- where no journey leaves the entries at any place, none is unlisted
  pub none_unlisted : ((b : ℕ) (r : List ℕ) → ¬ Branches m q ys [] b r) →
      ((y : List ℕ) → In y ys → (k : ℕ) → k < length y → (b : ℕ) (r : List ℕ) → ¬ Branches m q ys (take k y) b r) →
      (a : ℕ) (x : List ℕ) → ¬ Unlisted m q ys a x
  none_unlisted z h a x j = none_left m ys q.origin q.start q.destination q.latest q.apart ways z h a x ((fresh a x).1 j)
