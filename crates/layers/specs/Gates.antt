-- Gate hours: when an edge is shut, the least instant at which it is not, and what a network means behind windows.
use Rattle.std.specs.Prelude.{◌≡◌, ℕ, zero, suc, ◌+◌, ◌<◌, ◌≤◌, Bool, cond, ◌&&◌, ltb, ◌⊎◌, List, length, Some, None, count_by, Option, ◌==◌, nat_le, nat_lt}
use Rattle.std.specs.List.{HoldsAt, list_any}
use Rattle.networks.specs.Networks.{Meaning, day_end}
use Rattle.refusals.specs.declared.WindowRefusal.{WindowRefusal}
use Rattle.refusals.specs.declared.WindowRefusal.TheVariants.{TooManyWindows, WindowEdge, WindowSpan}
use Rattle.layers.specs.declared.windows.Window.{Window}

-- the window is one of that edge, and the instant is at or after its from and before its until
abbrev pub Covers : ℕ → ℕ → Window → Type 0
Covers e t w = (w.edge ≡ e) × (w.from ≤ t) × (t < w.until)

-- an edge is shut at an instant if some window covers it
abbrev pub Shut : List Window → ℕ → ℕ → Type 0
Shut ws e t = (k : ℕ) × (k < length ws) × HoldsAt (Covers e t) ws k

-- u is the least instant, not before t, at which the edge is not shut
pub record LeastOpen (ws : List Window) (e t u : ℕ) : Type 0 where
  pub not_before : t ≤ u
  pub not_shut : Shut ws e u → ⊥
  pub least : (s : ℕ) → t ≤ s → (Shut ws e s → ⊥) → u ≤ s

-- the tests that decide `Covers` and `Shut`
abbrev pub covers : ℕ → ℕ → Window → Bool
covers e t w = w.edge == e && (nat_le w.from t && nat_lt t w.until)

abbrev pub shut : List Window → ℕ → ℕ → Bool
shut ws e t = list_any (covers e t) ws

-- the first instant from t on that fails a test, if it is among the next k
unfoldable pub first_failing : (ℕ → Bool) → ℕ → ℕ → ℕ
first_failing p zero t = t
first_failing p (suc k) t = cond (p t) (first_failing p k (t + 1)) t

-- the instant that `LeastOpen` speaks of, for windows that end within the day
abbrev pub least_open : List Window → ℕ → ℕ → ℕ
least_open ws e t = first_failing (shut ws e) day_end t

-- Behind windows an edge is looked up at the least instant, not before the one asked, at which it is not shut.
abbrev pub gated : List Window → Meaning → Meaning
gated ws m = record { count = m.count; ends = m.ends; lookup = λ e t. m.lookup e (least_open ws e t) }

-- how many windows end after an instant
abbrev pub ending_after : ℕ → List Window → ℕ
ending_after t ws = count_by (λ w. ltb t w.until) ws

-- one step of a wait that has come to t: the edge is open then, or the wait goes on at u, after which fewer windows end
abbrev pub Wait : List Window → ℕ → ℕ → Option ℕ → Type 0
Wait ws e t None = least_open ws e t ≡ t
Wait ws e t (Some u) = (ending_after u ws < ending_after t ws) × (least_open ws e u ≡ least_open ws e t)

-- why a gate with these windows, over a network with so many edges, turns down a window:
-- sixteen are held; there is no such edge; from is not before until, or until is past the day
abbrev pub UnfitWindow : ℕ → List Window → Window → WindowRefusal → Type 0
UnfitWindow edges ws w TooManyWindows = length ws ≡ 16
UnfitWindow edges ws w WindowEdge = edges ≤ w.edge
UnfitWindow edges ws w WindowSpan = (w.until ≤ w.from) ⊎ (day_end < w.until)
