-- What the chains over the entries compute, in the words of the journeys listed.
use Rattle.std.proofs.Common.{◌≡◌, ℕ, ◌+◌, ◌<◌, ◌==◌, ◌||◌, ◌&&◌, ◌↔◌, Bool, true, false, cond, ◌⊎◌, List, [], ◌∷◌, ◌++◌, length, take, drop, sym, refl, ap, ◌∙◌, subst, inl, inr, Some, None, IsTrue, slice_get, is_some, Option, get_or, append-nil, zero, suc, arith}
use Rattle.std.specs.List.{list_any, filter_map, cons_option}
use Rattle.std.proofs.lemmas.List.{take_more, map-append}
use Rattle.std.proofs.lemmas.List.Elements.{filter_map-append}
use Rattle.std.specs.Bool.{Decides}
use Rattle.std.specs.Cmp.Lexicographic.{pointwise, bytes_decides}
use Rattle.std.proofs.lemmas.Bool.Decides.{Decides-eqb}
use Rattle.journeys.specs.Journeys.{In}
use Rattle.journey_laws.specs.Branching.{NextEdge}
use Rattle.entries.specs.declared.entry.Entry.{Entry}
use Rattle.entries.specs.Listing.{edges_of, all_edges, next_after}

-- strip_prefix and first give the edge
pub next_none : (p y : List ℕ) → pointwise ◌==◌ (take (length p) y) p ≡ false → next_after p y ≡ None
next_none [] [] h = refl
next_none [] (y ∷ ys) h = absurd (cc h)
next_none (x ∷ p) [] h = refl
next_none (x ∷ p) (y ∷ ys) h =
    (elim (y == x) as (λ b. (b && pointwise ◌==◌ (take (length p) ys) p) ≡ false → cond b (next_after p ys) None ≡ None) [
      | true ↦ λ k. next_none p ys k
      | false ↦ λ k. refl
    ]) h

pub next_some : (p y : List ℕ) → pointwise ◌==◌ (take (length p) y) p ≡ true → next_after p y ≡ slice_get (drop (length p) y) 0
next_some [] [] h = refl
next_some [] (y ∷ ys) h = refl
next_some (x ∷ p) [] h = absurd (cc h)
next_some (x ∷ p) (y ∷ ys) h =
    (elim (y == x) as (λ b. (b && pointwise ◌==◌ (take (length p) ys) p) ≡ true → cond b (next_after p ys) None ≡ slice_get (drop (length p) ys) 0) [
      | true ↦ λ k. next_some p ys k
      | false ↦ λ k. absurd (cc k)
    ]) h

-- it goes on from p
next_is : (p y : List ℕ) (x : ℕ) → next_after p y ≡ Some x → (r : List ℕ) × (p ++ (x ∷ r) ≡ y)
next_is [] [] x h = absurd (cc h)
next_is [] (y ∷ ys) x h = (ys, cc h)
next_is (z ∷ p) [] x h = absurd (cc h)
next_is (z ∷ p) (y ∷ ys) x h =
    (elim (y == z) as (λ b. (b ≡ true → y ≡ z) → cond b (next_after p ys) None ≡ Some x → (r : List ℕ) × ((z ∷ p) ++ (x ∷ r) ≡ y ∷ ys)) [
      | true ↦ λ same k. let (r, e) = next_is p ys x k in let f : y ≡ z = same refl in (r, cc (e, f))
      | false ↦ λ same k. absurd (cc k)
    ]) ((Decides-eqb y z).0) h

next_of : (p : List ℕ) (x : ℕ) (r : List ℕ) → next_after p (p ++ (x ∷ r)) ≡ Some x
next_of [] x r = refl
next_of (z ∷ p) x r = rw ((Decides-eqb z z).1 refl) (next_of p x r)

either : (b c : Bool) (P Q : Type 0) → Decides b P → Decides c Q → Decides (b || c) (P ⊎ Q)
either true c P Q (f, g) h = (λ e. inl (f refl), λ k. refl)
either false c P Q (f, g) (k, l) = (λ e. inr (k e), λ z. elim z [ inl p ↦ absurd (cc (g p)) | inr q ↦ l q ])

pub found : (es : List Entry) (ys : List ℕ) → IsTrue (list_any (λ e. pointwise ◌==◌ (edges_of e) ys) es) ↔ In ys (all_edges es)
found [] ys = (λ e. absurd (cc), λ h. absurd h)
found (e ∷ es) ys =
    either _ _ _ _ (let (f, g) = bytes_decides (edges_of e) ys in (λ h. sym (f h), λ h. g (sym h))) (found es ys)

pub goes_on : (es : List Entry) (p : List ℕ) → IsTrue (list_any (λ e. is_some (next_after p (edges_of e))) es) ↔ ((g : ℕ) × NextEdge (λ y. In y (all_edges es)) p g)
goes_on [] p = (λ h. absurd (cc h), λ (g, (r, h)). absurd h)
goes_on (e ∷ es) p =
    let (f, k) = either _ _ _ _ one (goes_on es p) in (
      λ h. elim (f h) [ inl (g, r, q) ↦ (g, (r, inl q)) | inr (g, (r, q)) ↦ (g, (r, inr q)) ],
      λ (g, (r, h)). k (elim h [ inl q ↦ inl (g, r, q) | inr q ↦ inr (g, (r, q)) ]),
    )
  where
    one : Decides (is_some (next_after p (edges_of e))) ((g : ℕ) × (r : List ℕ) × (p ++ (g ∷ r) ≡ edges_of e))
    one = (there (next_after p (edges_of e)) refl, λ (g, r, q). ap is_some (subst (λ (y : List ℕ). next_after p y ≡ Some g) q (next_of p g r)))
      where
        there : (o : Option ℕ) → next_after p (edges_of e) ≡ o → is_some o ≡ true → (g : ℕ) × (r : List ℕ) × (p ++ (g ∷ r) ≡ edges_of e)
        there None q h = absurd (cc h)
        there (Some g) q h = let (r, k) = next_is p (edges_of e) g q in (g, r, k)

pub next_in : (es : List Entry) (p : List ℕ) (x : ℕ) → In x (filter_map (λ e. next_after p (edges_of e)) es) ↔ NextEdge (λ y. In y (all_edges es)) p x
next_in [] p x = (λ h. absurd h, λ (r, h). h)
next_in (e ∷ es) p x =
    let (f, k) = next_in es p x in
    (there (next_after p (edges_of e)) refl f, back (next_after p (edges_of e)) refl k)
  where
    there : (o : Option ℕ) → next_after p (edges_of e) ≡ o → (In x (filter_map (λ e. next_after p (edges_of e)) es) → NextEdge (λ y. In y (all_edges es)) p x) →
        In x (cons_option o (filter_map (λ e. next_after p (edges_of e)) es)) → NextEdge (λ y. In y (all_edges (e ∷ es))) p x
    there None q f h = let (r, l) = f h in (r, inr l)
    there (Some g) q f (inl h) = let (r, l) = next_is p (edges_of e) x (q ∙ ap Some (sym h)) in (r, inl l)
    there (Some g) q f (inr h) = let (r, l) = f h in (r, inr l)

    back : (o : Option ℕ) → next_after p (edges_of e) ≡ o → (NextEdge (λ y. In y (all_edges es)) p x → In x (filter_map (λ e. next_after p (edges_of e)) es)) →
        NextEdge (λ y. In y (all_edges (e ∷ es))) p x → In x (cons_option o (filter_map (λ e. next_after p (edges_of e)) es))
    back o q k (r, inl l) = let h : o ≡ Some x = sym q ∙ subst (λ (y : List ℕ). next_after p y ≡ Some x) l (next_of p x r) in rw h (inl refl)
    back None q k (r, inr l) = k (r, l)
    back (Some g) q k (r, inr l) = inr (k (r, l))

module _ (es : List Entry) (i : ℕ) (d : Entry) (p : List ℕ) (lt : i < length es) where
  -- one entry more
  last : filter_map (λ e. next_after p (edges_of e)) (take (i + 1) es) ≡ filter_map (λ e. next_after p (edges_of e)) (take i es) ++ cons_option (next_after p (edges_of (get_or es i d))) []
  last = ap (filter_map (λ e. next_after p (edges_of e))) (take_more es i d lt) ∙ filter_map-append (λ e. next_after p (edges_of e)) (take i es) (get_or es i d ∷ [])

  pub more_some : (x : ℕ) → next_after p (edges_of (get_or es i d)) ≡ Some x →
      filter_map (λ e. next_after p (edges_of e)) (take (i + 1) es) ≡ filter_map (λ e. next_after p (edges_of e)) (take i es) ++ (x ∷ [])
  more_some x h = last ∙ ap (λ (o : Option ℕ). filter_map (λ e. next_after p (edges_of e)) (take i es) ++ cons_option o []) h

  pub more_none : next_after p (edges_of (get_or es i d)) ≡ None → filter_map (λ e. next_after p (edges_of e)) (take (i + 1) es) ≡ filter_map (λ e. next_after p (edges_of e)) (take i es)
  more_none h = last ∙ ap (λ (o : Option ℕ). filter_map (λ e. next_after p (edges_of e)) (take i es) ++ cons_option o []) h ∙ append-nil _

pub in_last : {A : Type 0} (l : List A) (x e : A) → In x (l ++ (e ∷ [])) ↔ (In x l ⊎ (x ≡ e))
in_last [] x e = ((λ h. elim h [ inl q ↦ inr q | inr k ↦ absurd k ]), λ h. elim h [ inl k ↦ absurd k | inr q ↦ inl q ])
in_last (y ∷ l) x e =
    let (f, g) = in_last l x e in (
      (λ h. elim h [ inl q ↦ inl (inl q) | inr k ↦ elim (f k) [ inl z ↦ inl (inr z) | inr q ↦ inr q ] ]),
      λ h. elim h [ inl k ↦ elim k [ inl q ↦ inl q | inr z ↦ inr (g (inl z)) ] | inr q ↦ inr (g (inr q)) ],
    )

-- the edges of the entries up to a place
pub in_more : (es : List Entry) (i : ℕ) (e : Entry) → i < length es → e ≡ get_or es i e → (y : List ℕ) → In y (all_edges (take (i + 1) es)) → In y (all_edges (take i es)) ⊎ (y ≡ edges_of e)
in_more es i e lt is y h = (in_last (all_edges (take i es)) y (edges_of e)).0 (subst (λ (z : List (List ℕ)). In y z) all h)
  where
    all : all_edges (take (i + 1) es) ≡ all_edges (take i es) ++ (edges_of e ∷ [])
    all = ap all_edges (take_more es i e lt) ∙ map-append edges_of (take i es) (get_or es i e ∷ []) ∙ ap (λ (z : Entry). all_edges (take i es) ++ (edges_of z ∷ [])) (sym is)

pub in_all : (es : List Entry) (i : ℕ) (d : Entry) → i < length es → In (edges_of (get_or es i d)) (all_edges es)
in_all [] i d lt = absurd (omega arith)
in_all (e ∷ es) zero d lt = inl refl
in_all (e ∷ es) (suc i) d lt = inr (in_all es i d (omega arith))
