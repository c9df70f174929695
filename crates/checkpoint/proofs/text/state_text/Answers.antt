use Rattle.state_spec.specs.server_spec.FileItems.{file_item, file_value}
use Rattle.checkpoint.proofs.Fronted.{made}
use Rattle.checkpoint.proofs.text.state_text.Goals as goal

-- what was written, part by part, is the state's text
pub returns : goal.returns
returns c = record {
  state = c.is_a_state.ensures.state;
  fits = c.is_a_state.ensures.fits;
  spelled = made file_item file_value c.args.state.now.state _ _ _ _ c.new-out.ensures.items
      c.in_ok-add_front.ensures c.machine.ensures.machine c.in_ok-add_files.ensures;
}
