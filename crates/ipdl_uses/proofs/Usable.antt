-- Something may be used exactly where no test refuses it.
use Rattle.std.proofs.Common.{◌≡◌, ◌↔◌, Option, Some, None}
use Rattle.std.specs.Option.{option_or}
use Rattle.ipdl_embed.specs.Completing.{completed}
use Rattle.ipdl_embed.specs.Pairs.{Pairs}
use Rattle.ipdl_term.specs.Renaming.{renamed, renaming_of}
use Rattle.ipdl_term.specs.Steps.{Direction}
use Rattle.ipdl_term.specs.Terms.{Protocol}
use Rattle.ipdl_term.specs.Typing.{Scope}
use Rattle.ipdl_uses.proofs.TestsOfUse.{none_of_either, neither_refuses, all_known, none_clash, none_hidden, is_side, all_fit}
use Rattle.ipdl_uses.specs.Lemmas.{Lemma}
use Rattle.ipdl_uses.specs.Usable.{IsUsable, UseRefusal, channel_refusal, clash_refusal, capture_refusal, side_refusal, port_refusal, use_refusal}
use Rattle.ipdl_uses.specs.Uses.{from_side}

-- five tests in order
each_of_five : (a b c d e : Option UseRefusal) → option_or a (option_or b (option_or c (option_or d e))) ≡ None → (a ≡ None) × (b ≡ None) × (c ≡ None) × (d ≡ None) × (e ≡ None)
each_of_five a b c d e h =
    let h₁ = none_of_either a (option_or b (option_or c (option_or d e))) h in
    let h₂ = none_of_either b (option_or c (option_or d e)) h₁.1 in
    let h₃ = none_of_either c (option_or d e) h₂.1 in
    let h₄ = none_of_either d e h₃.1 in
    (h₁.0, h₂.0, h₃.0, h₄.0, h₄.1)

none_of_five : (a b c d e : Option UseRefusal) → a ≡ None → b ≡ None → c ≡ None → d ≡ None → e ≡ None → option_or a (option_or b (option_or c (option_or d e))) ≡ None
none_of_five a b c d e h₁ h₂ h₃ h₄ h₅ =
    neither_refuses a (option_or b (option_or c (option_or d e))) h₁
    (neither_refuses b (option_or c (option_or d e)) h₂
    (neither_refuses c (option_or d e) h₃
    (neither_refuses d e h₄ h₅)))

pub usable_exactly : (lemma : Lemma) (direction : Direction) (part : Protocol) (scope : Scope) (pairs : Pairs) → IsUsable lemma direction part scope pairs ↔ (use_refusal lemma direction (Some part) scope pairs ≡ None)
usable_exactly lemma direction part scope pairs =
    let i = lemma.interface in
    let all = completed i pairs in
    let side = renamed (renaming_of all) (from_side direction lemma.chain) in
    let channels = channel_refusal i pairs in
    let clash = clash_refusal all in
    let capture = capture_refusal lemma all in
    let sides = side_refusal (Some part) side in
    let ports = port_refusal i scope all in (
      λ usable. none_of_five channels clash capture sides ports
          ((all_known i pairs).1 usable.known) ((none_clash all).1 usable.distinct) ((none_hidden lemma all).1 usable.free) ((is_side part side).1 usable.side) ((all_fit i scope all).1 usable.fits),
      λ h. let passed = each_of_five channels clash capture sides ports h in
          record {
            known = (all_known i pairs).0 passed.0;
            distinct = (none_clash all).0 passed.1;
            free = (none_hidden lemma all).0 passed.2;
            side = (is_side part side).0 passed.3;
            fits = (all_fit i scope all).0 passed.4;
          },
    )
