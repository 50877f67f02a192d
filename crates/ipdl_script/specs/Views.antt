-- What the types of the program stand for: settings, theorems, sides, why a step is refused, and what is wrong.
use Rattle.std.specs.Prelude.{map}
use Rattle.ipdl_chain.specs.Views.{chain_of}
use Rattle.ipdl_chain.specs.declared.chain.Chain.{Chain as HeldChain}
use Rattle.ipdl_forms.specs.Documents.{document_of}
use Rattle.ipdl_forms.specs.declared.document.TheoremItem.{TheoremItem}
use Rattle.ipdl_rules_r.specs.TruthTests.{abstract_symbol, too_large, too_wide, differ_at, other_forms}
use Rattle.ipdl_script.specs.Known.{Proved}
use Rattle.ipdl_script.specs.Scripts.{Theorem, Side, left_side, right_side, Wrong, wrong_step, wrong_ends}
use Rattle.ipdl_script.specs.Steps.{Setting, Refusal, no_place, no_variable, no_match, side_fails, not_result, ill_typed, untrue, no_channel, not_injective, captured, no_port}
use Rattle.ipdl_script.specs.declared.fault.Cause.{Cause}
use Rattle.ipdl_script.specs.declared.fault.Cause.TheVariants as C
use Rattle.ipdl_script.specs.declared.fault.Side.{Side as HeldSide}
use Rattle.ipdl_script.specs.declared.fault.Side.TheVariants as S
use Rattle.ipdl_script.specs.declared.fault.Wrong.{Wrong as HeldWrong}
use Rattle.ipdl_script.specs.declared.fault.Wrong.TheVariants as W
use Rattle.ipdl_script.specs.declared.setting.Setting.{Setting as HeldSetting}
use Rattle.ipdl_term.specs.Steps.{step_of}
use Rattle.ipdl_term.specs.Views.{protocol_of}
use Rattle.ipdl_term.specs.declared.protocol.Proto.{Proto}
use Rattle.ipdl_typing.specs.Answers.{failure_of}
use Rattle.ipdl_typing.specs.Signatures.{signature_of}

-- a theorem that was proved
abbrev pub proved_of : HeldChain → Proved
proved_of chain = record { name = chain.name; left = chain.left; chain = chain_of chain }

abbrev pub setting_of : HeldSetting → Setting
setting_of setting =
    record {
      sig = signature_of setting.sig.now;
      entries = (document_of setting.document.now).entries;
      theorems = map proved_of setting.chains.now;
      interface = setting.interface.now;
    }

-- the theorem of an item, whose names stand for these two protocols
abbrev pub theorem_of : (left right : Proto) → TheoremItem → Theorem
theorem_of left right item =
    record {
      left = protocol_of left;
      right = protocol_of right;
      lefts = map step_of item.left_steps;
      rights = map step_of item.right_steps;
    }

abbrev pub side_of : HeldSide → Side
side_of S.Left = left_side
side_of S.Right = right_side

abbrev pub refusal_of : Cause → Refusal
refusal_of C.NoPlace = no_place
refusal_of (C.NoVariable number) = no_variable number
refusal_of C.NoMatch = no_match
refusal_of (C.Side number) = side_fails number
refusal_of C.NotResult = not_result
refusal_of (C.IllTyped ill) = ill_typed (failure_of ill)
refusal_of (C.Abstract symbol) = untrue (abstract_symbol symbol)
refusal_of (C.Large bits) = untrue (too_large bits)
refusal_of (C.TooWide bits) = untrue (too_wide bits)
refusal_of (C.NotSame valuation) = untrue (differ_at valuation)
refusal_of (C.NotForm bit) = untrue (other_forms bit)
refusal_of (C.NoChannel c) = no_channel c
refusal_of (C.NotInjective c d) = not_injective c d
refusal_of (C.Capture c) = captured c
refusal_of (C.NoPort c) = no_port c

abbrev pub wrong_of : HeldWrong → Wrong
wrong_of (W.At side step cause) = wrong_step (side_of side) step (refusal_of cause)
wrong_of (W.Ends path) = wrong_ends path
