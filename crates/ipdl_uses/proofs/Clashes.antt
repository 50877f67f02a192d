-- What is told of pairs that give no renaming: the first unknown channel, or the first clash.
use Rattle.std.proofs.Common.{◌≡◌, [], ◌∷◌, ◌++◌, Some, None, sym, ap, ◌∙◌, subst, append_assoc, append-nil}
use Rattle.std.specs.List.{IsDistinct}
use Rattle.std.specs.Map.{values_of}
use Rattle.std.specs.Option.{option_or}
use Rattle.std.specs.Prelude.{option_map, slice_get}
use Rattle.ipdl_embed.specs.Completing.{completed, unknown_channels, IsFirstClash}
use Rattle.ipdl_embed.specs.Pairs.{Pairs, old_name}
use Rattle.ipdl_term.specs.Channels.{same_channel}
use Rattle.ipdl_term.specs.Terms.{Channel}
use Rattle.ipdl_term.specs.declared.interface.Interface.{Interface}
use Rattle.ipdl_uses.proofs.TestsOfUse.{all_known, neither_refuses, no_name_before, none_clash}
use Rattle.ipdl_uses.specs.Usable.{no_channel, not_injective, clash_after, channel_refusal, clash_refusal}

-- one pair on
moved : (start : Pairs) (pair : Channel × Channel) (pairs : Pairs) → start ++ pair ∷ pairs ≡ (start ++ pair ∷ []) ++ pairs
moved start pair pairs = sym (append_assoc start (pair ∷ []) pairs)

-- the first clash is found
clash_found : (start before after : Pairs) (first second target : Channel) → IsDistinct same_channel (values_of (start ++ before)) → old_name (start ++ before) target ≡ Some first → clash_after start (before ++ (second, target) ∷ after) ≡ Some (first, second)
clash_found start [] after first second target distinct found =
    ap (λ o. option_or (option_map (λ (c : Channel). (c, second)) o) (clash_after (start ++ (second, target) ∷ []) after))
    (ap (λ ps. old_name ps target) (sym (append-nil start)) ∙ found)
clash_found start (pair ∷ before) after first second target distinct found =
    ap (λ o. option_or (option_map (λ (c : Channel). (c, pair.0)) o) (clash_after (start ++ pair ∷ []) (before ++ (second, target) ∷ after))) (no_name_before start pair before distinct)
    ∙ clash_found (start ++ pair ∷ []) before after first second target
    (subst (λ ps. IsDistinct same_channel (values_of ps)) (moved start pair before) distinct)
    (ap (λ ps. old_name ps target) (sym (moved start pair before)) ∙ found)

clash_told : (pairs : Pairs) (first second : Channel) → IsFirstClash pairs first second → clash_refusal pairs ≡ Some (not_injective first second)
clash_told pairs first second clash =
    ap (option_map (λ (found : Channel × Channel). not_injective found.0 found.1))
    (ap (clash_after []) clash.second_pair ∙ clash_found [] clash.before clash.after first second clash.target clash.distinct clash.first_pair)

-- ---- the first of both tests

pub channel_told : (i : Interface) (pairs : Pairs) (c : Channel) → slice_get (unknown_channels i pairs) 0 ≡ Some c → option_or (channel_refusal i pairs) (clash_refusal (completed i pairs)) ≡ Some (no_channel c)
channel_told i pairs c is = ap (λ o. option_or (option_map no_channel o) (clash_refusal (completed i pairs))) is

pub names_clash : (i : Interface) (pairs : Pairs) (first second : Channel) → unknown_channels i pairs ≡ [] → IsFirstClash (completed i pairs) first second → option_or (channel_refusal i pairs) (clash_refusal (completed i pairs)) ≡ Some (not_injective first second)
names_clash i pairs first second known clash =
    ap (λ o. option_or o (clash_refusal (completed i pairs))) ((all_known i pairs).1 known) ∙ clash_told (completed i pairs) first second clash

-- neither refuses where there is a renaming
pub names_pass : (i : Interface) (pairs : Pairs) → unknown_channels i pairs ≡ [] → IsDistinct same_channel (values_of (completed i pairs)) → option_or (channel_refusal i pairs) (clash_refusal (completed i pairs)) ≡ None
names_pass i pairs known distinct =
    neither_refuses (channel_refusal i pairs) (clash_refusal (completed i pairs)) ((all_known i pairs).1 known) ((none_clash (completed i pairs)).1 distinct)
