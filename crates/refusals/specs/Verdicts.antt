-- When a call refuses, and with which of its reasons.
use Rattle.std.specs.Prelude.{◌≡◌, ℕ, suc, ◌<◌, cond, ◌⊎◌, List, [], ◌∷◌, Some, None, Ok, Err, Option, Result, ◌==◌}
use Rattle.refusals.specs.declared.Refusal.{Refusal}
use Rattle.refusals.specs.Told.{Told, told}

-- where a refusal without a place stands before all that have one
abbrev pub position : Option ℕ → ℕ
position None = 0
position (Some p) = suc p

-- how many numbers of a call's own list stand before this one
abbrev pub turn : List ℕ → ℕ → ℕ
turn [] n = 0
turn (x ∷ xs) n = cond (x == n) 0 (suc (turn xs n))

-- a comes before b: it has no place and b has one, or its place is earlier, or at one place its number stands earlier in the call's own list
abbrev pub Precedes : List ℕ → Told → Told → Type 0
Precedes order a b = (position a.place < position b.place) ⊎ ((position a.place ≡ position b.place) × (turn order a.number < turn order b.number))

-- f is a reason that holds, and none that holds comes before it
pub record First {F : Type 0} (refusal : F → Refusal) (order : List ℕ) (Holds : F → Type 0) (f : F) : Type 0 where
  pub holds : Holds f
  pub none_before : (g : F) → Precedes order (told (refusal g)) (told (refusal f)) → Holds g → ⊥

-- A call with the reasons F goes ahead if none of them holds, and else refuses with the first that holds.
abbrev pub Verdict : {F A : Type 0} → (F → Refusal) → List ℕ → (F → Type 0) → Result A Refusal → Type 0
Verdict {F} refusal order Holds (Ok x) = (f : F) → Holds f → ⊥
Verdict {F} refusal order Holds (Err r) = (f : F) × (r ≡ refusal f) × First refusal order Holds f

-- The same of a check within one layer, which tells the reason itself.
abbrev pub Judged : {F A : Type 0} → (F → Refusal) → List ℕ → (F → Type 0) → Result A F → Type 0
Judged {F} refusal order Holds (Ok x) = (f : F) → Holds f → ⊥
Judged {F} refusal order Holds (Err f) = First refusal order Holds f

-- a reason that holds at place k
abbrev pub At : {F : Type 0} → (F → Refusal) → (F → Type 0) → ℕ → F → Type 0
At refusal Holds k f = ((told (refusal f)).place ≡ Some k) × Holds f
