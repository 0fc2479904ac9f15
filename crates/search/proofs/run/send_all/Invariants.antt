use Rattle.std.proofs.Common.{◌≡◌, ℕ, ◌≤◌, take, drop}
use Rattle.search.specs.Runs.{turns}
use Rattle.search.specs.Turning.{Ran}
use Rattle.search.proofs.run.send_all.Given as goal

abbrev pub invariant-loop-k : goal.invariant-loop-k
invariant-loop-k g l = record {
  same : (l.search.network ≡ l.initial.search.network) × (l.search.question ≡ l.initial.search.question);
  ran : Ran (g.N.Network.meaning l.initial.search.network) l.initial.search.question l.initial.search.entries (turns (take l.k l.calls) (take l.k l.answers)) l.search.entries;
  rest : (j : ℕ) → l.k ≤ j → drop j l.answers ≡ drop j l.initial.answers;
}
