use Rattle.std.proofs.Common.{◌<◌, ◌∙◌, ap, arith, length, map}
use Rattle.std.proofs.lemmas.List.{length-map}
use Rattle.secure_log.specs.LogEntries.Chain.{Logged}
use Rattle.explain.specs.Numbers.{skipped_in}
use Rattle.explain.proofs.EntryNumbers.{skipped_there}
use Rattle.explain.proofs.places.Log.skipped.Goals as goal

pub returns : goal.returns
returns c =
    let log = c.args.self.now.audited.now.entries in
    let inside : c.args.at < length (map (λ (l : Logged). l.entry) log) =
    omega (arith, c.requires, length-map log (λ (l : Logged). l.entry)) in
    c.skipped_at.ensures
    ∙ skipped_there c.skips.result.now (map (λ (l : Logged). l.entry) log) c.args.at inside
    ∙ ap (λ l. skipped_in l c.args.at) c.skips.ensures
