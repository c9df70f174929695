use Rattle.std.proofs.Common.{◌≡◌, ◌∙◌, drop, Ok, ap, rules, sym}
use Rattle.xdr.specs.Reading.{number_at}
use Rattle.std.proofs.lemmas.List.{take_rest}
use Rattle.console.proofs.input.word_at.Goals as goal

pub returns-in-Ok : goal.returns-in-Ok
returns-in-Ok c =
    let same : c.new-reader.result ≡ drop c.args.at c.args.bytes.now =
    search (rules, take_rest c.args.bytes.now c.args.at) in
    let read : number_at 4 c.new-reader.result ≡ Ok (c.in-Ok.word, c.u32.new.self) = search rules in
    record {
      rest = c.u32.new.self;
      word = ap (number_at 4) (sym same) ∙ read;
      inside = search rules;
    }
