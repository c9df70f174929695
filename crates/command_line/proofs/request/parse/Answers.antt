use Rattle.std.proofs.Common.{map, string_bytes}
use Rattle.command_line.proofs.Asked.{is_none}
use Rattle.command_line.proofs.request.parse.Goals as goal

pub returns-clause-err : goal.returns-clause-err
returns-clause-err c =
    is_none (map string_bytes c.args.words.now) c.request_by_rules.result c.request_by_rules.ensures.kinds
