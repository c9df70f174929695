use Rattle.state_machine.specs.Machines.{machine_in}
use Rattle.state_machine.proofs.Served.{same_node_tried}
use Rattle.state_machine.proofs.state.State.answer.Goals as goal

pub invariant_of-self : goal.invariant_of-self
invariant_of-self c =
    same_node_tried c.self.inside.node (machine_in c.self.inside.machine) (machine_in c.answer_by.new.machine)
    c.args.time c.args.body.now c.answer_by.result c.answer_by.ensures.ok c.answer_by.ensures.err
    c.self.invariant
