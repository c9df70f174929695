use Rattle.std.proofs.Common.{◌≡◌, subst, sym, true}
use Rattle.xdr.specs.Item.{spelling}
use Rattle.xdr.specs.Writing.{Adds}
use Rattle.authenticator.specs.declared.member.LogVersion.{LogVersion}
use Rattle.evidence_spec.specs.Base.{base_item, base_value}
use Rattle.evidence_spec.specs.Showing.{links_follow, showing_value}
use Rattle.evidence_showings.proofs.base_write.add_base.Goals as goal

pub add_worded_base-requires-clause-words : goal.add_worded_base-requires-clause-words
add_worded_base-requires-clause-words c =
    subst (λ v. links_follow v (showing_value v c.args.showing.now) ≡ true) c.in-Two.is c.requires.words

pub returns-in-One : goal.returns-in-One
returns-in-One c =
    subst (λ (v : LogVersion). Adds (spelling base_item (base_value (record {
      log_version = v;
      showing = c.args.showing.now;
      at = c.args.at;
      state = c.args.state.now;
    }))) c.args.out.now.items c.add_plain_base.result c.add_plain_base.new.out.items)
    (sym c.in-One.is) c.add_plain_base.ensures

pub returns-in-Two : goal.returns-in-Two
returns-in-Two c =
    subst (λ (v : LogVersion). Adds (spelling base_item (base_value (record {
      log_version = v;
      showing = c.args.showing.now;
      at = c.args.at;
      state = c.args.state.now;
    }))) c.args.out.now.items c.add_worded_base.result c.add_worded_base.new.out.items)
    (sym c.in-Two.is) c.add_worded_base.ensures
