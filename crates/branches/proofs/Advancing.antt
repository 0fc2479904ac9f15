-- Where the edges lead, edge by edge, and whether they are a simple journey.
use Rattle.std.proofs.Common.{◌≡◌, ℕ, ◌+◌, ◌<◌, ◌≤◌, true, false, ◌≢◌, ◌⊎◌, ◌↔◌, List, [], ◌∷◌, ◌++◌, length, get_or, take, drop, Some, None, Err, Ok, Result, sym, refl, ap, ◌∙◌, subst, inl, inr, append-nil, arith, take-append-drop}
use native.Mathlib.Decide.{ℕ_discrete}
use Rattle.std.proofs.lemmas.List.{take_more, drop_more}
use Rattle.std.proofs.lemmas.Bool.{both_ways}
use Rattle.std.specs.Result.{result_ok}
use Rattle.networks.specs.Networks.{Meaning, Lawful}
use Rattle.stops.specs.declared.StopSet.{StopSet}
use Rattle.stops.specs.Sets.{member, Holds}
use Rattle.journeys.specs.declared.question.Question.{Question}
use Rattle.journeys.specs.declared.walks.Step.{Step}
use Rattle.journeys.specs.declared.walks.Obstacle.{Obstacle}
use Rattle.journeys.specs.declared.walks.Obstacle.TheVariants.{NoSuchEdge, LeavesElsewhere, NoDeparture}
use Rattle.journeys.specs.Walking.{Takes, Taken}
use Rattle.journeys.specs.Journeys.{In, Simple}
use Rattle.journey_laws.specs.Ways.{Nothing, Way}
use Rattle.journey_laws.specs.Branching.{Through}
use Rattle.journey_laws.proofs.Bridge.{simple_onward, way_of_simple}
use Rattle.journey_laws.proofs.Diverging.{split, join}
use Rattle.journey_laws.proofs.Entries.{few_edges}
use Rattle.journey_laws.proofs.Greedy.{any_edge}
use Rattle.journey_laws.proofs.Nexts.{stuck}
use Rattle.journey_laws.proofs.Taking.{same_stop}
use Rattle.journey_laws.proofs.Places.{one_through, through_more}
use Rattle.branches.specs.declared.position.Position.{Position}
use Rattle.branches.specs.Following.{At, Advanced, Arrives}

-- what cannot be taken
pub not_taken : (m : Meaning) (v i e : ℕ) (o : Obstacle) → Taken m (Some v) i e (Err o) → (w s : ℕ) → ¬ Takes m v i e w s
not_taken m v i e NoSuchEdge h w s st = let z : ◌≡◌ {A = ℕ} 0 1 = cc (h, st.leads) in omega arith
not_taken m v i e LeavesElsewhere (u, x, h, n) w s st = let p : ◌≡◌ {A = ℕ × ℕ} (u, x) (v, w) = cc (h, st.leads) in n (sym (ap (λ (z : ℕ × ℕ). z.0) p))
not_taken m v i e NoDeparture (u, x, h, k, l) w s st = let z : ◌≡◌ {A = ℕ} 0 1 = cc (l, st.arrives) in omega arith

module _ (m : Meaning) (q : Question) (p : List ℕ) (e : ℕ) (here : Position) (at : At m q p here) where
  stays : ((w s : ℕ) → Takes m here.stop here.instant e w s → (w ≡ here.stop) ⊎ Holds here.behind w) → Advanced m q p e None
  stays h d a r w =
      stuck m q.origin q.start d a p at.behind here.stop here.instant e r at.through
      (λ v s st. elim (h v s st) [ inl k ↦ inl k | inr k ↦ inr ((at.held v).0 k) ]) w

  pub no_step : (o : Obstacle) → Taken m (Some here.stop) here.instant e (Err o) → Advanced m q p e None
  no_step o h = stays (λ w s st. absurd (not_taken m here.stop here.instant e o h w s st))

  pub none_taken : (r : Result Step Obstacle) → Taken m (Some here.stop) here.instant e r → result_ok r ≡ None → Advanced m q p e None
  none_taken (Ok step) h is = let z : ◌≡◌ {A = ℕ} 0 1 = cc in absurd (omega arith)
  none_taken (Err o) h is = no_step o h

  step_from : (step : Step) → Taken m (Some here.stop) here.instant e (Ok step) → Takes m here.stop here.instant e step.to step.arrival
  step_from step h = rw h.0 h.1

  pub comes_again : (step : Step) → Taken m (Some here.stop) here.instant e (Ok step) → (step.to ≡ here.stop) ⊎ Holds here.behind step.to → Advanced m q p e None
  comes_again step h k = stays (λ w s st. let same = same_stop (step_from step h) st in elim k [ inl e ↦ inl (same ∙ e) | inr j ↦ inr (subst (Holds here.behind) (sym same) j) ])

  pub goes_on : (step : Step) → Taken m (Some here.stop) here.instant e (Ok step) → ¬ (step.to ≡ here.stop) → member here.behind step.to ≡ false →
      (set : StopSet) → member set here.stop ≡ true → ((x : ℕ) → x ≢ here.stop → member set x ≡ member here.behind x) →
      At m q (p ++ (e ∷ [])) (record { stop = step.to; instant = step.arrival; behind = set })
  goes_on step h away free set after rest = record {
    behind = here.stop ∷ at.behind;
    through = through_more m [] at.behind q.origin q.start here.stop here.instant e step.to step.arrival p at.through (step_from step h) not_yet;
    held = λ x. held x (ℕ_discrete x here.stop);
  }
    where
      not_yet : ¬ In step.to (here.stop ∷ at.behind)
      not_yet (inl k) = away k
      not_yet (inr h) = both_ways (member here.behind step.to) free ((at.held step.to).1 h)

      held : (x : ℕ) → Dec (x ≡ here.stop) → Holds set x ↔ In x (here.stop ∷ at.behind)
      held x (yes k) = ((λ h. inl k), λ h. ap (member set) k ∙ after)
      held x (no n) = ((λ h. inr ((at.held x).0 (sym (rest x n) ∙ h))), λ h. elim h [ inl k ↦ absurd (n k) | inr j ↦ rest x n ∙ (at.held x).1 j ])

-- one edge more
module _ (m : Meaning) (q : Question) (es : List ℕ) (k : ℕ) (lt : k < length es) where
  pub whole : take k es ++ (get_or es k 0 ∷ drop (k + 1) es) ≡ es
  whole = ap (λ (z : List ℕ). take k es ++ z) (sym (drop_more es k 0 lt)) ∙ take-append-drop k es

  pub no_way : Advanced m q (take k es) (get_or es k 0) None → (d a : ℕ) → ¬ Way m Nothing q.origin q.start d a es
  no_way h d a w = h d a (drop (k + 1) es) (rw whole w)

  pub at_next : (there : Position) → Advanced m q (take k es) (get_or es k 0) (Some there) → At m q (take (k + 1) es) there
  at_next there h = rw (take_more es k 0 lt) h

-- the edges are a simple journey where they lead to the destination in time
module _ (m : Meaning) (q : Question) (es : List ℕ) where
  pub not_simple : ((d a : ℕ) → ¬ Way m Nothing q.origin q.start d a es) → (a : ℕ) → ¬ Simple m q a es
  not_simple n a j = n q.destination a (way_of_simple m q a es j)

  module _ (here : Position) (at : At m q es here) where
    leads : (a : ℕ) → Simple m q a es → (here.stop ≡ q.destination) × (here.instant ≡ a)
    leads a j = on (split m q.destination [] q.origin q.start a es [] (rw append-nil (way_of_simple m q a es j)))
      where
        on : (behind' : List ℕ) × (v' : ℕ) × (i' : ℕ) × Through m [] q.origin q.start es behind' v' i' × Way m (λ x. In x behind') v' i' q.destination a [] →
            (here.stop ≡ q.destination) × (here.instant ≡ a)
        on (behind', v', i', al', w) =
            let (x, y, z) = one_through m [] at.behind behind' q.origin q.start here.stop v' here.instant i' es at.through al' in
            (sym y ∙ w.0, sym z ∙ w.1)

    pub elsewhere : ¬ (here.stop ≡ q.destination) ⊎ (q.latest < here.instant) → (a : ℕ) → ¬ Simple m q a es
    elsewhere (inl n) a j = n (leads a j).0
    elsewhere (inr lt) a j = let e = (leads a j).1 in let l = j.in_time in omega arith

    pub arrives : Lawful m → here.stop ≡ q.destination → here.instant ≤ q.latest → Arrives m q es (Some here.instant)
    arrives law e le = (few_edges m q law here.instant es simple, simple)
      where
        simple : Simple m q here.instant es
        simple =
            let w : Way m Nothing q.origin q.start q.destination here.instant (es ++ []) = join m q.destination [] at.behind q.origin q.start here.stop here.instant here.instant es [] at.through (e, refl) in
            (simple_onward m q here.instant es).1 (record { way = rw append-nil at w; unbarred = any_edge es; in_time = le })
