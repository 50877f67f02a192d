-- When the tests of a use pass, one by one.
use Rattle.std.proofs.Common.{◌≡◌, ◌↔◌, Bool, true, false, ◌||◌, List, [], ◌∷◌, ◌++◌, Option, Some, None, is_some, slice_get, refl, sym, ap, ◌∙◌, subst, append_assoc, append-nil}
use Rattle.std.proofs.lemmas.List.{map-append}
use Rattle.std.specs.List.{AllByRecursion, IsDistinct}
use Rattle.std.specs.Map.{values_of}
use Rattle.std.specs.Option.{option_or}
use Rattle.std.specs.Prelude.{option_map, if◌then◌else◌}
use Rattle.ipdl_embed.proofs.Captures.{first_captured_target-none}
use Rattle.ipdl_embed.proofs.Completions.{name_is_free}
use Rattle.ipdl_embed.proofs.PairLaws.{values_of-push, is_some-old_name, IsDistinct-push}
use Rattle.ipdl_embed.specs.Captures.{first_captured_target}
use Rattle.ipdl_embed.specs.Completing.{unknown_channels}
use Rattle.ipdl_embed.specs.Fitting.{first_unfit}
use Rattle.ipdl_embed.specs.Pairs.{Pairs, old_name}
use Rattle.ipdl_term.specs.Channels.{same_channel, has, AreDisjoint}
use Rattle.ipdl_term.specs.Renaming.{renaming_of}
use Rattle.ipdl_term.specs.Same.{same_protocol, same_protocol-Decides}
use Rattle.ipdl_term.specs.Terms.{Channel, Protocol}
use Rattle.ipdl_term.specs.Typing.{Scope}
use Rattle.ipdl_term.specs.declared.interface.Interface.{Interface}
use Rattle.ipdl_uses.specs.Lemmas.{Lemma, hidden_in_chain}
use Rattle.ipdl_uses.specs.Usable.{no_channel, not_side, clash_after, channel_refusal, clash_refusal, capture_refusal, side_refusal, port_refusal}

-- ---- answers that are none

pub none_of_map : {X Y : Type 0} (f : X → Y) (a : Option X) → option_map f a ≡ None → a ≡ None
none_of_map f None h = refl
none_of_map f (Some x) h = cc

pub none_of_some : {X : Type 0} (a : Option X) → is_some a ≡ false → a ≡ None
none_of_some None h = refl
none_of_some (Some x) h = cc

-- of several tests none refuses exactly where each passes
pub none_of_either : {X : Type 0} (a b : Option X) → option_or a b ≡ None → (a ≡ None) × (b ≡ None)
none_of_either None b h = (refl, h)
none_of_either (Some x) b h = cc

pub neither_refuses : {X : Type 0} (a b : Option X) → a ≡ None → b ≡ None → option_or a b ≡ None
neither_refuses a b h k = ap (λ o. option_or o b) h ∙ k

-- ---- the channels of the pairs

none_at_front : {X : Type 0} (xs : List X) → slice_get xs 0 ≡ None → xs ≡ []
none_at_front [] h = refl
none_at_front (x ∷ xs) h = cc

pub all_known : (i : Interface) (pairs : Pairs) → (channel_refusal i pairs ≡ None) ↔ (unknown_channels i pairs ≡ [])
all_known i pairs = (
  λ h. none_at_front (unknown_channels i pairs) (none_of_map _ (slice_get (unknown_channels i pairs) 0) h),
  λ h. ap (λ cs. option_map no_channel (slice_get cs 0)) h,
)

-- ---- different new names

-- a channel between others is none of those before it
apart_at : (P : Channel → Type 0) (before : List Channel) (d : Channel) (after : List Channel) → AllByRecursion P (before ++ d ∷ after) → P d
apart_at P [] d after h = h.0
apart_at P (c ∷ before) d after h = apart_at P before d after h.1

apart_from_before : (before : List Channel) (d : Channel) (after : List Channel) → IsDistinct same_channel (before ++ d ∷ after) → has before d ≡ false
unfolding IsDistinct
apart_from_before [] d after h = refl
apart_from_before (c ∷ before) d after h =
    ap (λ b. b || has before d) (apart_at (λ e. same_channel c e ≡ false) before d after h.0) ∙ apart_from_before before d after h.1

distinct_where_no_clash : (before pairs : Pairs) → IsDistinct same_channel (values_of before) → clash_after before pairs ≡ None → IsDistinct same_channel (values_of (before ++ pairs))
distinct_where_no_clash before [] distinct h = subst (λ ps. IsDistinct same_channel (values_of ps)) (sym (append-nil before)) distinct
distinct_where_no_clash before (pair ∷ pairs) distinct h =
    let parts = none_of_either (option_map (λ c. (c, pair.0)) (old_name before pair.1)) (clash_after (before ++ pair ∷ []) pairs) h in
    let free = name_is_free before pair.1 (sym (none_of_map (λ c. (c, pair.0)) (old_name before pair.1) parts.0)) in
    let more = subst (IsDistinct same_channel) (sym (values_of-push before pair.0 pair.1)) (IsDistinct-push (values_of before) pair.1 distinct free) in
    subst (λ ps. IsDistinct same_channel (values_of ps)) (append_assoc before (pair ∷ []) pairs)
    (distinct_where_no_clash (before ++ pair ∷ []) pairs more parts.1)

-- so the name of a pair is no new name of a pair before it
pub no_name_before : (before : Pairs) (pair : Channel × Channel) (pairs : Pairs) → IsDistinct same_channel (values_of (before ++ pair ∷ pairs)) → old_name before pair.1 ≡ None
no_name_before before pair pairs distinct =
    let values = subst (IsDistinct same_channel) (map-append (λ (p : Channel × Channel). p.1) before (pair ∷ pairs)) distinct in
    none_of_some (old_name before pair.1) (is_some-old_name before pair.1 ∙ apart_from_before (values_of before) pair.1 (values_of pairs) values)

no_clash_where_distinct : (before pairs : Pairs) → IsDistinct same_channel (values_of (before ++ pairs)) → clash_after before pairs ≡ None
no_clash_where_distinct before [] distinct = refl
no_clash_where_distinct before (pair ∷ pairs) distinct =
    let free = no_name_before before pair pairs distinct in
    neither_refuses (option_map (λ c. (c, pair.0)) (old_name before pair.1)) (clash_after (before ++ pair ∷ []) pairs) (ap (option_map (λ c. (c, pair.0))) free)
    (no_clash_where_distinct (before ++ pair ∷ []) pairs (subst (λ ps. IsDistinct same_channel (values_of ps)) (sym (append_assoc before (pair ∷ []) pairs)) distinct))

pub none_clash : (pairs : Pairs) → (clash_refusal pairs ≡ None) ↔ IsDistinct same_channel (values_of pairs)
unfolding IsDistinct
none_clash pairs = (
  λ h. distinct_where_no_clash [] pairs tt (none_of_map _ (clash_after [] pairs) h),
  λ h. ap (option_map _) (no_clash_where_distinct [] pairs h),
)

-- ---- no new name hidden, the side, and the widths

pub none_hidden : (lemma : Lemma) (pairs : Pairs) → (capture_refusal lemma pairs ≡ None) ↔ AreDisjoint (values_of pairs) (hidden_in_chain lemma.chain)
none_hidden lemma pairs = (
  λ h. (first_captured_target-none pairs (hidden_in_chain lemma.chain)).0 (none_of_map _ (first_captured_target pairs (hidden_in_chain lemma.chain)) h),
  λ h. ap (option_map _) ((first_captured_target-none pairs (hidden_in_chain lemma.chain)).1 h),
)

same_where_none : (b : Bool) → (if b then None else Some not_side) ≡ None → b ≡ true
same_where_none true h = refl
same_where_none false h = cc

pub is_side : (part side : Protocol) → (side_refusal (Some part) side ≡ None) ↔ (part ≡ side)
is_side part side = (
  λ h. (same_protocol-Decides part side).0 (same_where_none (same_protocol part side) h),
  λ h. ap (λ b. if b then None else Some not_side) ((same_protocol-Decides part side).1 h),
)

pub all_fit : (i : Interface) (scope : Scope) (pairs : Pairs) → (port_refusal i scope pairs ≡ None) ↔ (first_unfit scope (renaming_of pairs) (i.inputs ++ i.outputs) ≡ None)
all_fit i scope pairs = (
  λ h. none_of_map _ (first_unfit scope (renaming_of pairs) (i.inputs ++ i.outputs)) h,
  λ h. ap (option_map _) h,
)
