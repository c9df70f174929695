use Rattle.std.specs.Option.{option_map}
use Rattle.remote_sharing.proofs.UnderLock.{passed_on, stops_under_lock}
use Rattle.remote_sharing.proofs.shared.SharedRemote.call.Goals as goal

pub returns-in-None-clause-stops : goal.returns-in-None-clause-stops
returns-in-None-clause-stops g c =
    passed_on _ _ _ (option_map (λ v. v.items) c.in-Ok.reply) c.in-Ok.ensures.begun c.in-Ok.ensures.exchanged

pub returns-in-Err-clause-stops : goal.returns-in-Err-clause-stops
returns-in-Err-clause-stops g c =
    stops_under_lock _ _ _ _ c.in-Err.fault _ c.in-Err.ensures.stops c.failed.ensures.none c.failed.ensures.told
