-- What the program holds at a number: its parts, and what it writes.
use Rattle.std.proofs.Common.{◌≡◌, ℕ, ◌+◌, ◌-◌, ◌<◌, ◌≤◌, Bool, List, [], ◌++◌, Option, get_or, length, map, reverse, take, drop, sym, ap, ap₂, ◌∙◌, subst, arith}
use Rattle.std.proofs.lemmas.List.{append-nil, take_rest}
use Rattle.ipdl_forms.specs.declared.document.ProtocolItem.{ProtocolItem}
use Rattle.ipdl_mean.specs.Readings.{Assignment, channels_read}
use Rattle.ipdl_mean.specs.Running.{Ends, HasNarrowFlips, written_in}
use Rattle.ipdl_mean.specs.Views.{IsNetwork}
use Rattle.ipdl_mean.specs.declared.net.Node.{Node as Held}
use Rattle.ipdl_mean.proofs.Networks.{IsHeldAt, held_at, all_at, IsNodeBefore, nodes_before, length-network}
use Rattle.ipdl_mean.proofs.Runs.{value_of_run}
use Rattle.ipdl_sig.specs.declared.symbol.Symbol.{Symbol}
use Rattle.ipdl_term.specs.Interpretations.{Interpretation}
use Rattle.ipdl_term.specs.Networks.{assignment_count, Writers, network, no_writers, value_of, value_at, flat_round}
use Rattle.ipdl_term.specs.Protocols.{coins}
use Rattle.ipdl_term.specs.Reactions.{reaction_coins, reaction_outcome, outcome_value}
use Rattle.ipdl_term.specs.Terms.{Value}
use Rattle.ipdl_term.specs.Valuations.{Valuation}
use Rattle.ipdl_term.specs.Views.{reaction_of, protocol_of}
use Rattle.ipdl_typing.specs.Signatures.{signature_of}

module _ (symbols : List Symbol) (item : ProtocolItem) (holds : List Held) (outputs : List (Option ℕ)) (bits : ℕ) (is : IsNetwork symbols item holds outputs bits) (k : ℕ) (within : k < assignment_count (protocol_of item.body)) (held : Held) (at : held ≡ get_or holds k held) where
  here : IsHeldAt (network (protocol_of item.body)) k held
  here = held_at holds (network (protocol_of item.body)) is.assignments k held (omega (arith, is.count)) at

  before : IsNodeBefore (signature_of symbols) (coins (protocol_of item.body)) here.node
  before =
      all_at (IsNodeBefore (signature_of symbols) (coins (protocol_of item.body))) (network (protocol_of item.body)) k here.node
      (nodes_before (signature_of symbols) (protocol_of item.body) _ is.typed.typed 0 0 (coins (protocol_of item.body)) no_writers (omega arith))
      (omega (arith, length-network holds (network (protocol_of item.body)) is.assignments, is.count)) here.there

  reaction_is : reaction_of held.reaction.now ≡ here.node.reaction
  reaction_is = ap (λ (a : Assignment). a.reaction) here.held_is

  first_bit_is : held.first_bit ≡ here.node.first_bit
  first_bit_is = ap (λ (a : Assignment). a.first_bit) here.held_is

  coins_are : held.coins ≡ reaction_coins here.node.reaction
  coins_are = ap (λ (a : Assignment). a.coins) here.held_is

  writers_are : held.writers.items ≡ map here.node.writer (channels_read here.node.reaction)
  writers_are = ap (λ (a : Assignment). a.writers) here.held_is

  pub flips_are_narrow : HasNarrowFlips (reaction_of held.reaction.now)
  flips_are_narrow = subst HasNarrowFlips (sym reaction_is) before.0

  pub segment_within : held.first_bit + held.coins ≤ coins (protocol_of item.body)
  segment_within = omega (arith, before.1, first_bit_is, coins_are)

  module _ (J : Interpretation) (tape : List Bool) (values : List (Option Value)) (env : List Value) (none : env ≡ []) where
    abbrev segment : List Bool
    segment = take held.coins (take (length tape - held.first_bit) (drop held.first_bit tape))

    segment_is : segment ≡ take (reaction_coins here.node.reaction) (drop here.node.first_bit tape)
    segment_is =
        ap (take held.coins) (take_rest tape held.first_bit) ∙ ap₂ (λ n m. take n (drop m tape)) coins_are first_bit_is

    abbrev Ended : Option Value → List Bool → List (Option ℕ) → Type 0
    Ended value end rest = (writers : Writers) (behind : List (Option ℕ)) → held.writers.items ≡ map writers (channels_read (reaction_of held.reaction.now)) ++ behind →
        Ends value end rest behind (reaction_outcome J (reaction_of held.reaction.now) (reverse env) (λ c. value_of k (writers c) (written_in values)) segment)

    -- the run of its reaction gives what it writes
    pub run_is_round : (value : Option Value) (end : List Bool) (rest : List (Option ℕ)) → Ended value end rest → value ≡ flat_round J (network (protocol_of item.body)) tape (written_in values) k
    run_is_round value end rest ended =
        let given : held.writers.items ≡ map here.node.writer (channels_read (reaction_of held.reaction.now)) ++ [] = writers_are ∙ ap (λ r. map here.node.writer (channels_read r)) (sym reaction_is) ∙ sym (append-nil (map here.node.writer (channels_read (reaction_of held.reaction.now)))) in
        let inputs : Valuation = λ c. value_of k (here.node.writer c) (written_in values) in
        value_of_run value end rest [] _ (ended here.node.writer [] given) ∙
        ap₂ (λ r t. outcome_value (reaction_outcome J r (reverse env) inputs t)) reaction_is segment_is ∙
        ap (λ e. outcome_value (reaction_outcome J here.node.reaction (reverse e) inputs (take (reaction_coins here.node.reaction) (drop here.node.first_bit tape)))) none ∙
        sym (ap (λ o. value_at J tape k o (written_in values)) here.there)
