-- What the program's types stand for, and what holds of the parts of a network.
use Rattle.std.specs.Prelude.{◌≡◌, ℕ, ◌^◌, ◌<◌, List, Option, None, length, map}
use Rattle.ipdl_forms.specs.declared.document.ProtocolItem.{ProtocolItem}
use Rattle.ipdl_mean.specs.Readings.{Assignment, assignment_of, writers_with}
use Rattle.ipdl_mean.specs.Refusals.{first_abstract}
use Rattle.ipdl_mean.specs.declared.net.Node.{Node}
use Rattle.ipdl_mean.specs.declared.writers.Visible.{Visible}
use Rattle.ipdl_mean.specs.declared.writers.Visible.TheVariants.{Outputs, Hidden'}
use Rattle.ipdl_sig.specs.declared.symbol.Symbol.{Symbol}
use Rattle.ipdl_term.specs.Networks.{assignment_count, writer_number, Writers, network}
use Rattle.ipdl_term.specs.Protocols.{coins}
use Rattle.ipdl_term.specs.Terms.{Protocol}
use Rattle.ipdl_term.specs.Typing.{HasInterface, port_names}
use Rattle.ipdl_term.specs.Views.{reaction_of, protocol_of}
use Rattle.ipdl_typing.specs.Signatures.{signature_of}

abbrev pub node_of : Node → Assignment
node_of node =
    record {
      channel = node.channel.now;
      reaction = reaction_of node.reaction.now;
      first_bit = node.first_bit;
      coins = node.coins;
      writers = node.writers.items;
    }

-- the writers of the visible channels
abbrev pub writers_of : Visible → Writers
writers_of (Outputs p) c = writer_number (protocol_of p.now) 0 c
writers_of (Hidden' _ outside name number) c = writers_with name.now number (writers_of outside) c

-- the whole protocol of which some channels are visible
abbrev pub whole_of : Visible → Protocol
whole_of (Outputs p) = protocol_of p.now
whole_of (Hidden' _ outside name number) = whole_of outside

-- what a network holds of the protocol of its item
pub record IsNetwork (symbols : List Symbol) (item : ProtocolItem) (held : List Node) (writers : List (Option ℕ)) (bits : ℕ) : Type 0 where
  pub typed : HasInterface (signature_of symbols) item.interface (protocol_of item.body)
  pub tables : first_abstract (signature_of symbols) (protocol_of item.body) ≡ None
  pub count : length held ≡ assignment_count (protocol_of item.body)
  pub few : assignment_count (protocol_of item.body) < 2 ^ 32
  pub assignments : map node_of held ≡ map assignment_of (network (protocol_of item.body))
  pub outputs : writers ≡ map (writer_number (protocol_of item.body) 0) (port_names item.interface.outputs)
  pub coins : bits ≡ coins (protocol_of item.body)
