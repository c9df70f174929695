use Rattle.std.proofs.Common.{ap}
use Rattle.server_spec.specs.World.{world_of}
use Rattle.server_spec.proofs.Sizes.{fits_a_record}
use Rattle.service.proofs.Replied.{call_replied, fault_replied}
use Rattle.service.proofs.KeptWorlds.{world_seen}
use Rattle.service.proofs.service.Service.answer_into.Goals as goal
use Rattle.service.proofs.service.Service.answer_into.Goals.{in-Ok+in_ok-reply_to-in-Ok, in-Err}

pub returns-clause-reply : goal.returns-clause-reply
returns-clause-reply c = elim c.match-read_call.branch [
  | in-Ok+in_ok-reply_to-in-Ok w ↦
      rw (w.is_owed-is, w.out-is, ← world_seen c.self.view_is)
      ((call_replied _ c.args.time c.args.bytes.now c.read_call.result
      c.read_call.ensures.exact w.in-Ok.call
      c.args.out.now.items w.reply_to.new.out.items (world_of w.reply_to.new.tree.files c.later-now.result
      w.reply_to.new.mounts) w.in-Ok.is
      (world_of c.self.inside.tree.files c.later-now.result c.self.inside.mounts)
      (ap (λ t. world_of c.self.inside.tree.files t c.self.inside.mounts) c.later-now.ensures)
      w.in_ok-reply_to-in-Ok.ensures.text w.in_ok-reply_to-in-Ok.ensures.world).0)
  | in-Err w ↦
      rw (w.is_owed-is, w.out-is, ← world_seen c.self.view_is)
      ((fault_replied _ c.args.time c.args.bytes.now c.read_call.result
      c.read_call.ensures.exact w.in-Err.field-0 w.in-Err.is c.args.out.now.items).0)
]

pub returns-clause-world : goal.returns-clause-world
returns-clause-world c = elim c.match-read_call.branch [
  | in-Ok+in_ok-reply_to-in-Ok w ↦
      rw (w.self-inside-is, ← world_seen c.self.view_is)
      ((call_replied _ c.args.time c.args.bytes.now c.read_call.result
      c.read_call.ensures.exact w.in-Ok.call
      c.args.out.now.items w.reply_to.new.out.items (world_of w.reply_to.new.tree.files c.later-now.result
      w.reply_to.new.mounts) w.in-Ok.is
      (world_of c.self.inside.tree.files c.later-now.result c.self.inside.mounts)
      (ap (λ t. world_of c.self.inside.tree.files t c.self.inside.mounts) c.later-now.ensures)
      w.in_ok-reply_to-in-Ok.ensures.text w.in_ok-reply_to-in-Ok.ensures.world).1)
  | in-Err w ↦
      rw (w.self-inside-is, ← world_seen c.self.view_is, c.later-now.ensures)
      ((fault_replied _ c.args.time c.args.bytes.now c.read_call.result c.read_call.ensures.exact
      w.in-Err.field-0 w.in-Err.is c.args.out.now.items).1)
]

pub returns-clause-size : goal.returns-clause-size
returns-clause-size c =
    fits_a_record c.args.self.now.world (rw (← world_seen c.self.view_is) c.files_are_a_tree.ensures.tree)
    (rw (← world_seen c.self.view_is) c.are_mounts.ensures) c.args.time c.args.bytes.now
