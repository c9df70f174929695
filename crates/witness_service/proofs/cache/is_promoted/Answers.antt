use Rattle.std.proofs.Common.{sym, ap, ◌∙◌}
use Rattle.witness_service.specs.Caching.{Entries, bytes_of}
use Rattle.witness_service.specs.Hashing.{ref_bytes}
use Rattle.witness_service.proofs.Keys.{found_key, kept_as, promoted_holds, promoted_keys}
use Rattle.witness_service.proofs.cache.is_promoted.Goals as goal

pub returns-clause-holds : goal.returns-clause-holds
returns-clause-holds c =
    promoted_holds c.args.capacity (ref_bytes c.args.key) c.args.kept.now c.promote.new.self c.requires
    c.promote.ensures.entries

pub returns-clause-own : goal.returns-clause-own
returns-clause-own c = λ yes.
    found_key (ref_bytes c.args.key) c.args.kept.now.entries c.requires.signed
    (sym c.promote.ensures.value ∙ yes)

pub returns-clause-there : goal.returns-clause-there
returns-clause-there c = c.promote.ensures.value ∙ kept_as (ref_bytes c.args.key) c.args.kept.now.entries

pub returns-clause-keys : goal.returns-clause-keys
returns-clause-keys c =
    ap (λ (k : Entries). bytes_of k.entries) c.promote.ensures.entries
    ∙ promoted_keys c.args.capacity (ref_bytes c.args.key) c.args.kept.now.entries c.promote.result
    c.promote.ensures.value
