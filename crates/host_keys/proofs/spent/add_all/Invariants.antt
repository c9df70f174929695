use Rattle.std.proofs.Common.{◌≡◌, ◌++◌, drop, string_bytes}
use Rattle.host_keys.specs.Spent.{spent_text}
use Rattle.host_keys.proofs.spent.add_all.Given as goal

abbrev pub invariant-loop-one : goal.invariant-loop-one
invariant-loop-one l =
    string_bytes l.fn.text ++ spent_text l.begun
    ≡ string_bytes l.text ++ spent_text (drop l.one-index l.begun)
