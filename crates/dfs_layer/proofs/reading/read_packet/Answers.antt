use Rattle.std.proofs.Common.{◌≡◌, List, ℕ, ap, ◌∙◌, arith}
use Rattle.dfs_layer.specs.Packets.{packet_at}
use Rattle.dfs_layer.proofs.Packets.{if_found, packet_again}
use Rattle.dfs_layer.proofs.reading.read_packet.Goals as goal

pub returns-clause-found : goal.returns-clause-found
returns-clause-found c = if_found c.args.bytes.now c.packet_of.result (λ i. omega (arith, c.type_inv.bytes i)) c.packet_of.ensures

pub returns-clause-only : goal.returns-clause-only
returns-clause-only c = λ p is e. c.packet_of.ensures ∙ ap packet_at e ∙ packet_again p is
