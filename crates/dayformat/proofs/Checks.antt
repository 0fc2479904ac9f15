-- A file is checked record by record.
use Rattle.std.proofs.Common.{◌≡◌, ℕ, ◌+◌, ◌*◌, ◌<◌, ◌≤◌, ◌⊎◌, List, [], ◌∷◌, ◌++◌, length, replicate, Some, None, sum_by, sym, refl, ap, ◌∙◌, subst, inl, inr, arith}
use Rattle.std.proofs.lemmas.List.{replicate_more}
use Rattle.std.proofs.lemmas.Grind.{common_steps}
use Rattle.std.proofs.lemmas.List.Folds.{sum_by-replicate}
use Rattle.std.proofs.lemmas.List.Sums.{sum_by-append}
use Rattle.refusals.specs.Verdicts.{position}
use Rattle.dayformat.specs.declared.Kind.{Kind}
use Rattle.dayformat.specs.declared.Kind.TheVariants as kind
use Rattle.dayformat.specs.declared.Lengths.{Lengths}
use Rattle.dayformat.specs.Layout.{layout, size, step, Mark}
use Rattle.dayformat.specs.Faults.{Stand, Later, Full, Next, count}
use Rattle.dayformat.specs.Whole.{Fits, Added, arranged}
use Rattle.dayformat.proofs.Progress.{Checked}
use Rattle.dayformat.proofs.Stands.{stand_push}
use Rattle.dayformat.proofs.Reasons.{clear_next}

-- the kinds of a connections, b footpaths and c lines, one record more
abbrev kinds_of : ℕ → ℕ → ℕ → List Kind
kinds_of a b c = replicate a kind.Connection ++ (replicate b kind.Footpath ++ replicate c kind.Line)

more_connections : (a b c : ℕ) → b ≡ 0 → c ≡ 0 → kinds_of (a + 1) b c ≡ kinds_of a b c ++ kind.Connection ∷ []
more_connections a b c eb ec = grind (arith, common_steps, replicate_more)

more_footpaths : (a b c : ℕ) → c ≡ 0 → kinds_of a (b + 1) c ≡ kinds_of a b c ++ kind.Footpath ∷ []
more_footpaths a b c ec = grind (arith, common_steps, replicate_more)

more_lines : (a b c : ℕ) → kinds_of a b (c + 1) ≡ kinds_of a b c ++ kind.Line ∷ []
more_lines a b c = grind (arith, common_steps, replicate_more)

-- how many of each kind they are
sum_kinds : (f : Kind → ℕ) (a b c : ℕ) → sum_by f (kinds_of a b c) ≡ f kind.Connection * a + (f kind.Footpath * b + f kind.Line * c)
sum_kinds f a b c =
    omega (
      arith,
      sum_by-append f (replicate a kind.Connection) (replicate b kind.Footpath ++ replicate c kind.Line),
      sum_by-append f (replicate b kind.Footpath) (replicate c kind.Line),
      sum_by-replicate f a kind.Connection,
      sum_by-replicate f b kind.Footpath,
      sum_by-replicate f c kind.Line,
    )

pub count_connections : (n : Lengths) → count kind.Connection (arranged n) ≡ n.connections
count_connections n = sum_kinds _ n.connections n.footpaths n.lines ∙ omega arith

pub count_footpaths : (n : Lengths) → count kind.Footpath (arranged n) ≡ n.footpaths
count_footpaths n = sum_kinds _ n.connections n.footpaths n.lines ∙ omega arith

pub count_lines : (n : Lengths) → count kind.Line (arranged n) ≡ n.lines
count_lines n = sum_kinds _ n.connections n.footpaths n.lines ∙ omega arith

-- a kind that comes later than j, among the kinds with one more
later_push : (ks : List Kind) (k j : Kind) → Later (ks ++ k ∷ []) j → Later ks j ⊎ ((layout j).turn < (layout k).turn)
later_push [] k j (inl h) = inr h
later_push [] k j (inr h) = absurd h
later_push (i ∷ ks) k j (inl h) = inl (inl h)
later_push (i ∷ ks) k j (inr h) = elim (later_push ks k j h) [ inl l ↦ inl (inr l) | inr l ↦ inr l ]

later_last : (ks : List Kind) (k j : Kind) → (layout j).turn < (layout k).turn → Later (ks ++ k ∷ []) j
later_last [] k j h = inl h
later_last (i ∷ ks) k j h = inr (later_last ks k j h)

module _ (file : List ℕ) (room : Lengths) where
  pub checked_none : Checked file room (record { connections = 0; footpaths = 0; lines = 0 }) 0 kind.Connection
  checked_none = record {
    stand = (refl, omega arith);
    fits = record { connections = omega arith; footpaths = omega arith; lines = omega arith };
    clear = λ f h d. omega (arith, ap position d.named);
    later = λ k l. absurd l;
    earlier = λ k l. absurd (omega arith);
    no_footpath = λ _. refl;
    no_line = λ _. refl;
  }

module _ (file : List ℕ) (room n : Lengths) (p : ℕ) (latest : Kind) (c : Checked file room n p latest) where
  checked_more : (k : Kind) (n' : Lengths) → Mark file p k → p + size k ≤ length file → (layout latest).turn ≤ (layout k).turn → (layout k).turn < 3 → (Full room (arranged n) k → ⊥)
      → arranged n' ≡ arranged n ++ k ∷ [] → Fits n' room → ((layout k).turn < 1 → n'.footpaths ≡ 0) → ((layout k).turn < 2 → n'.lines ≡ 0) → Checked file room n' (p + size k) k
  checked_more k n' m w o t full e fits nf nl = record {
    stand = subst (λ (ks : List Kind). Stand file 0 ks (p + size k)) (sym e) (stand_push file (arranged n) k 0 p c.stand t m w);
    fits = fits;
    clear = clear_next file room n p latest c k m w (λ l. omega (arith, c.later k l)) full (λ q. omega (arith, ap (λ (z : Kind). (layout z).turn) q));
    later = λ j l. elim (later_push (arranged n) k j (subst (λ (ks : List Kind). Later ks j) e l)) [ inl h ↦ omega (arith, c.later j h) | inr h ↦ h ];
    earlier = λ j h. subst (λ (ks : List Kind). Later ks j) (sym e) (later_last (arranged n) k j h);
    no_footpath = nf;
    no_line = nl;
  }

  -- one connection, footpath or line more
  pub checked_connection : Mark file p kind.Connection → p + 14 ≤ length file → (layout latest).turn ≤ 0 → n.connections < room.connections
      → Checked file room (record { connections = n.connections + 1; footpaths = n.footpaths; lines = n.lines }) (p + 14) kind.Connection
  checked_connection m w o h =
      let f : n.footpaths ≡ 0 = c.no_footpath (omega arith) in let l : n.lines ≡ 0 = c.no_line (omega arith) in let s = c.fits in
      checked_more kind.Connection _ m w o (omega arith) (λ z. omega (arith, count_connections n)) (more_connections n.connections n.footpaths n.lines f l)
      (record { connections = omega arith; footpaths = s.footpaths; lines = s.lines }) (λ _. f) (λ _. l)

  pub checked_footpath : Mark file p kind.Footpath → p + 8 ≤ length file → (layout latest).turn ≤ 1 → n.footpaths < room.footpaths
      → Checked file room (record { connections = n.connections; footpaths = n.footpaths + 1; lines = n.lines }) (p + 8) kind.Footpath
  checked_footpath m w o h =
      let l : n.lines ≡ 0 = c.no_line (omega arith) in let s = c.fits in
      checked_more kind.Footpath _ m w o (omega arith) (λ z. omega (arith, count_footpaths n)) (more_footpaths n.connections n.footpaths n.lines l)
      (record { connections = s.connections; footpaths = omega arith; lines = s.lines }) (λ q. absurd (omega arith)) (λ _. l)

  pub checked_line : Mark file p kind.Line → p + 20 ≤ length file → (layout latest).turn ≤ 2 → n.lines < room.lines
      → Checked file room (record { connections = n.connections; footpaths = n.footpaths; lines = n.lines + 1 }) (p + 20) kind.Line
  checked_line m w o h =
      let s = c.fits in
      checked_more kind.Line _ m w o (omega arith) (λ z. omega (arith, count_lines n)) (more_lines n.connections n.footpaths n.lines)
      (record { connections = s.connections; footpaths = s.footpaths; lines = omega arith }) (λ q. absurd (omega arith)) (λ q. absurd (omega arith))

  -- the record that the reader hands out is counted, or its list is full
  pub checked_next : (k : Kind) (m : Lengths) → (k ≡ kind.End → ⊥) → Next file p latest k → Added room n k (Some m) → Checked file room m (p + step k) k
  checked_next kind.Connection m o x a = subst (λ (z : Lengths). Checked file room z (p + 14) kind.Connection) (sym a.1) (checked_connection x.mark x.whole x.follows a.0)
  checked_next kind.Footpath m o x a = subst (λ (z : Lengths). Checked file room z (p + 8) kind.Footpath) (sym a.1) (checked_footpath x.mark x.whole x.follows a.0)
  checked_next kind.Line m o x a = subst (λ (z : Lengths). Checked file room z (p + 20) kind.Line) (sym a.1) (checked_line x.mark x.whole x.follows a.0)
  checked_next kind.End m o x a = absurd (o refl)

  pub full_next : (k : Kind) → Added room n k None → Full room (arranged n) k
  full_next kind.Connection a = omega (arith, count_connections n)
  full_next kind.Footpath a = omega (arith, count_footpaths n)
  full_next kind.Line a = omega (arith, count_lines n)
  full_next kind.End a = let z : ◌≡◌ {A = ℕ} 0 1 = cc in omega arith
