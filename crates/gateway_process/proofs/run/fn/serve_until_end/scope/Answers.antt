use denote.Param.Send.{arg_send, param_send}
use Rattle.gateway_process.proofs.run.fn.serve_until_end.scope.Goals as goal

pub run_threads-requires-send-W : goal.run_threads-requires-send-W
run_threads-requires-send-W g c = λ κs h. param_send _ _ (arg_send _ _ _ c.requires.1.1.1.1.1.1.0)

pub run_threads-requires-send-E : goal.run_threads-requires-send-E
run_threads-requires-send-E g c = λ κs h. param_send _ _ (arg_send _ _ _ c.requires.1.1.1.1.1.1.1)

pub run_threads-requires-send-K : goal.run_threads-requires-send-K
run_threads-requires-send-K g c = λ κs h. param_send _ _ (arg_send _ _ _ c.requires.1.1.1.1.1.1.2)
