-- Late notices: the notice of an edge, and what a network means under notices.
use Rattle.std.specs.Prelude.{◌≡◌, ℕ, ◌+◌, ◌<◌, ◌≤◌, cond, List, length, Some, None, Option, option_map, ◌==◌, ◌≢◌, nat_le}
use Rattle.std.specs.List.{HoldsAt, AllPairs, find}
use Rattle.networks.specs.Networks.{Meaning, day_end}
use Rattle.refusals.specs.declared.NoticeRefusal.{NoticeRefusal}
use Rattle.refusals.specs.declared.NoticeRefusal.TheVariants.{TooManyNotices, NoticeEdge, NoticeRepeated, NoticeTooLong}
use Rattle.layers.specs.declared.notices.Notice.{Notice}

-- the notice at place k is one of that edge
abbrev pub NoticeAt : List Notice → ℕ → ℕ → Type 0
NoticeAt ns e k = (k < length ns) × HoldsAt (λ n. n.edge ≡ e) ns k

-- the edge has a notice
abbrev pub Noticed : List Notice → ℕ → Type 0
Noticed ns e = (k : ℕ) × NoticeAt ns e k

-- the seconds of the edge's one notice, or none where the edge has no notice
abbrev pub TheNotice : List Notice → ℕ → Option ℕ → Type 0
TheNotice ns e None = Noticed ns e → ⊥
TheNotice ns e (Some s) = (k : ℕ) × NoticeAt ns e k × HoldsAt (λ n. n.seconds ≡ s) ns k × ((j : ℕ) → NoticeAt ns e j → j ≡ k)

-- no two notices are of one edge
abbrev pub Once : List Notice → Type 0
Once ns = AllPairs (λ m n. m.edge ≢ n.edge) ns

-- the answer that `TheNotice` speaks of, for notices of different edges
abbrev pub seconds_of : List Notice → ℕ → Option ℕ
seconds_of ns e = option_map (λ n. n.seconds) (find (λ n. n.edge == e) ns)

-- an arrival so many seconds later, if that is within the day; without a notice it stays
abbrev pub later : Option ℕ → Option ℕ → Option ℕ
later None a = a
later (Some s) None = None
later (Some s) (Some u) = cond (nat_le (u + s) day_end) (Some (u + s)) None

-- Under notices an edge is reached later by the seconds of its notice.
abbrev pub delayed : List Notice → Meaning → Meaning
delayed ns m = record { count = m.count; ends = m.ends; lookup = λ e t. later (seconds_of ns e) (m.lookup e t) }

-- why a late layer with these notices, over a network with so many edges, turns down a notice:
-- thirty-two are held; there is no such edge; the edge has a notice; the delay is above 86,400 seconds
abbrev pub UnfitNotice : ℕ → List Notice → Notice → NoticeRefusal → Type 0
UnfitNotice edges ns n TooManyNotices = length ns ≡ 32
UnfitNotice edges ns n NoticeEdge = edges ≤ n.edge
UnfitNotice edges ns n NoticeRepeated = Noticed ns n.edge
UnfitNotice edges ns n NoticeTooLong = 86400 < n.seconds
