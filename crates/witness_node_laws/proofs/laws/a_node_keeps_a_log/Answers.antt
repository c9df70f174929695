use Rattle.std.proofs.Common.{List, map, subst, ◌∙◌, ap}
use Rattle.std.specs.List.{AllByRecursion}
use Rattle.authenticator.specs.declared.member.LogVersion.{LogVersion}
use Rattle.secure_log.specs.LogEntries.Chain.{Logged}
use Rattle.node_logs.specs.replay_spec.LogLaws.LoggedMessages.{entries_of}
use Rattle.xdr.specs.Item.{Fits}
use Rattle.secure_log.specs.declared.log_entries.entry.Entry.{Entry}
use Rattle.secure_log.specs.LogEntries.Entry.{entry_item, entry_value}
use Rattle.secure_log.specs.Log.{HasNumbers}
use Rattle.node_logs.specs.replay_spec.Bodies.{HasBytes}
use Rattle.node_logs.specs.Steps.Nodes.{sender_of}
use Rattle.witness_node_laws.proofs.Listed.{each_fits, each_has_bytes, honest_from}
use Rattle.witness_node_laws.proofs.Pairs.{of_place}
use Rattle.witness_node_laws.proofs.laws.a_node_keeps_a_log.Goals as goal

-- from what is known of the node's log and of its entries
pub returns : goal.returns
returns c =
    let n = c.args.node.now in
    let same = c.entries.ensures ∙ ap (λ (ls : List Logged). entries_of ls) c.log-2.ensures.entries in
    record {
      is_log = record {
        each = each_fits n.entries
            (subst (λ (es : List Entry). AllByRecursion (Fits entry_item) (map entry_value es)) same
            c.entries_have_texts.ensures.each);
        bytes = each_has_bytes n.entries
            (subst (λ (es : List Entry). AllByRecursion HasBytes es) same c.entries_have_texts.ensures.bytes);
        numbers = subst (λ (v : LogVersion). HasNumbers v n.entries) c.log.ensures.version
            (subst (λ (ls : List Logged). HasNumbers c.log.result.now.log_version ls) c.log.ensures.entries
            c.has_numbers.ensures.numbers);
      };
      honest = λ plain m listed. honest_from n m listed (c.is_honest.ensures.honest plain);
      shown = λ number a made.
          of_place c.a_log_has_one_pair_for_each_place.ensures.each (sender_of n) number a c.is_honest.ensures.signed
          (c.what_a_sender_shows_is_of_its_log.ensures.authenticator (sender_of n) number a
          c.is_honest.ensures.signed made).place;
    }
