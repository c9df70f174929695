-- The numbers, the addresses and the lists in what a party on a host of its own is asked.
use Rattle.std.specs.Prelude.{◌≡◌, Option, Some, None, IfSome, IsSome, map, option_map}
use Rattle.std.specs.Net.Addr.{IsLoopbackV4, IsLoopbackV6}
use Rattle.std.specs.Net.Grammar.{IsSocketText}
use Rattle.std.specs.declared.net.socket_addr.SocketAddr.{SocketAddr}
use Rattle.std.specs.declared.net.socket_addr.SocketAddr.TheVariants as socket
use Rattle.clap.specs.Walk.{Text}
use Rattle.command_line.specs.Lists.{ArePeers, IsPeer, hosts_named, items_of}
use Rattle.command_line.specs.MemberOrders.{WritesRange, WritesRangeOr}
use Rattle.command_line.specs.ServeOrders.{Writes, WritesIf, WritesOr}
use Rattle.command_line.specs.declared.host_numbers.AskOrder.{AskOrder}
use Rattle.command_line.specs.declared.host_numbers.GatewayOrder.{GatewayOrder}
use Rattle.command_line.specs.declared.host_numbers.ServerOrder.{ServerOrder}
use Rattle.command_line.specs.declared.host_numbers.WitnessOrder.{WitnessOrder}
use Rattle.command_line.specs.declared.hosts.AskRequest.{AskRequest}
use Rattle.command_line.specs.declared.hosts.GatewayRequest.{GatewayRequest}
use Rattle.command_line.specs.declared.hosts.ServerRequest.{ServerRequest}
use Rattle.command_line.specs.declared.hosts.WitnessRequest.{WitnessRequest}

-- the text is no address with a port
abbrev pub IsNoSocket : Text → Type 0
IsNoSocket text = (a : SocketAddr) → IsSocketText text a → ⊥

-- the address in an option's word; none without the option
abbrev pub SocketIf : Option Text → Option SocketAddr → Type 0
SocketIf None address = address ≡ None
SocketIf (Some text) address = IsSome address × IfSome address (IsSocketText text)

-- only this machine reaches the address
abbrev pub HasLoopback : SocketAddr → Type 0
HasLoopback (socket.V4 a) = IsLoopbackV4 a.ip
HasLoopback (socket.V6 a) = IsLoopbackV6 a.ip

-- the order of `server`
pub record OrdersServer (r : ServerRequest) (o : ServerOrder) : Type 0 where
  pub secret : o.secret ≡ r.secret
  pub rosters : o.rosters ≡ r.rosters
  pub state : o.state ≡ r.state
  pub node : Writes 1 64 r.node.now o.node
  pub listen : IsSocketText r.listen.now o.listen
  pub audit : SocketIf (option_map (λ s. s.now) r.audit) o.audit
  pub check_every : WritesIf 1 16384 (option_map (λ s. s.now) r.check_every) o.check_every
  pub progress : o.progress ≡ r.progress
  pub log_file : o.log_file ≡ r.log_file

-- the order of `gateway`
pub record OrdersGateway (r : GatewayRequest) (o : GatewayOrder) : Type 0 where
  pub secret : o.secret ≡ r.secret
  pub rosters : o.rosters ≡ r.rosters
  pub state : o.state ≡ r.state
  pub nodes : WritesRange 1 64 r.nodes.now o.first o.last
  pub server : IsPeer r.server.now o.server
  pub witnesses : map (λ s. s.now) o.witnesses.items ≡ hosts_named (option_map (λ s. s.now) r.witness)
  pub listen : IfSome r.listen (λ text. IsSocketText text.now o.listen)
  pub own : HasLoopback o.listen
  pub every : WritesOr 1 86400 10 (option_map (λ s. s.now) r.every) o.every
  pub reserve : WritesOr 0 16384 0 (option_map (λ s. s.now) r.reserve) o.reserve
  pub give_up : WritesIf 1 4294967295 (option_map (λ s. s.now) r.give_up) o.give_up
  pub progress : o.progress ≡ r.progress
  pub log_file : o.log_file ≡ r.log_file

-- the order of `witness`
pub record OrdersWitness (r : WitnessRequest) (o : WitnessOrder) : Type 0 where
  pub rosters : o.rosters ≡ r.rosters
  pub servers : ArePeers (items_of r.at.now) o.servers.items
  pub listen : IsSocketText r.listen.now o.listen
  pub witnesses : map (λ s. s.now) o.witnesses.items ≡ hosts_named (option_map (λ s. s.now) r.witness)
  pub every : WritesOr 1 86400 10 (option_map (λ s. s.now) r.every) o.every
  pub patience : WritesOr 0 86400 60 (option_map (λ s. s.now) r.patience) o.patience
  pub overlap : WritesOr 0 86400 3600 (option_map (λ s. s.now) r.overlap) o.overlap
  pub evidence : o.evidence ≡ r.evidence
  pub epoch : WritesIf 1 4294967295 (option_map (λ s. s.now) r.epoch) o.epoch
  pub join : o.join ≡ r.join
  pub state : o.state ≡ r.state
  pub log_file : o.log_file ≡ r.log_file

-- the order of `ask`
pub record OrdersAsk (r : AskRequest) (o : AskOrder) : Type 0 where
  pub witnesses : map (λ s. s.now) o.witnesses.items ≡ items_of r.witness.now
  pub rosters : o.rosters ≡ r.rosters
  pub evidence : o.evidence ≡ r.evidence
  pub state : o.state ≡ r.state
  pub nodes : WritesRangeOr 1 64 1 64 (option_map (λ s. s.now) r.nodes) o.first o.last
