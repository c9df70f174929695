use Rattle.std.proofs.Common.{[], subst, sym}
use Rattle.command_line.specs.Lists.{ArePeers, items_of}
use Rattle.command_line.proofs.Items.{read_all, read_more}
use Rattle.command_line.proofs.lists.peers_of.Goals as goal

pub loop-item-init : goal.loop-item-init
loop-item-init c = record {
  done = [];
  split = sym c.new-items.ensures;
  peers = subst (ArePeers []) (sym c.new-peers.ensures.items) tt;
}

pub loop-item-preserved : goal.loop-item-preserved
loop-item-preserved c =
    read_more (items_of c.args.list.now) _ _ c.loop-item.peers.items _ c.in-Some.item.now
    c.in-Some-peer_of.peer
    c.loop-item.invariant c.in-Some.ensures c.in-Some-peer_of.ensures.is c.in-Ok.ensures.items

pub returns : goal.returns
returns c =
    read_all (items_of c.args.list.now) _ c.loop-item.peers.items c.loop-item.invariant c.in_default.ensures
