-- Laws of combined valuations, and of those without some channels.
use Rattle.std.proofs.Common.{◌≡◌, Bool, true, false, ◌||◌, List, None, refl, sym, ap, ◌∙◌}
use Rattle.std.specs.Prelude.{if◌then◌else◌}
use mathlib.Core.Path.{fun_ext}
use Rattle.ipdl_term.specs.Channels.{same_channel, has, union, SameSet, AreDisjoint}
use Rattle.ipdl_term.specs.Terms.{Channel}
use Rattle.ipdl_term.specs.Valuations.{Valuation, nothing, only, combined, taken_out, all_taken_out}
use Rattle.ipdl_laws.proofs.Order.{WritesOnly}
use Rattle.ipdl_term.proofs.ChannelSets.{has-union}
use Rattle.ipdl_laws.proofs.Sets.{by_test, if-true, if-false, if_same, at_same_channel, in_union_left, AreDisjoint_swap}

-- of what is taken out nothing is left to take out
pub all_taken_out_twice : (cs : List Channel) (p : Valuation) → all_taken_out cs (all_taken_out cs p) ≡ all_taken_out cs p
all_taken_out_twice cs p = fun_ext (λ c. by_test (has cs c)
    (λ e. if-true (has cs c) _ _ e ∙ sym (if-true (has cs c) _ _ e))
    (λ e. if-false (has cs c) _ _ e))

-- nothing is taken out of what does not write it
pub all_taken_out_idle : (cs : List Channel) (p : Valuation) → ((c : Channel) → has cs c ≡ true → p c ≡ None) → all_taken_out cs p ≡ p
all_taken_out_idle cs p h = fun_ext (λ c. by_test (has cs c) (λ e. if-true (has cs c) _ _ e ∙ sym (h c e)) (λ e. if-false (has cs c) _ _ e))

-- the order of two channels that are taken out
pub taken_out_swap : (c d : Channel) (p : Valuation) → taken_out c (taken_out d p) ≡ taken_out d (taken_out c p)
taken_out_swap c d p = fun_ext (λ e. by_test (same_channel c e)
    (λ k. if-true (same_channel c e) _ _ k ∙ by_test (same_channel d e)
    (λ l. sym (if-true (same_channel d e) _ _ l))
    (λ l. sym (if-false (same_channel d e) _ _ l ∙ if-true (same_channel c e) _ _ k)))
    (λ k. if-false (same_channel c e) _ _ k ∙ if_same (same_channel d e) _ _ _ _ (λ l. refl) (λ l. sym (if-false (same_channel c e) _ _ k))))

-- all of a valuation
pub combined_nothing : (cs : List Channel) (s : Valuation) → WritesOnly cs s → combined cs s nothing ≡ s
combined_nothing cs s only = fun_ext (λ c. by_test (has cs c) (λ e. if-true (has cs c) _ _ e) (λ e. if-false (has cs c) _ _ e ∙ sym (only c e)))

-- at a union, one set after the other
pub combined-union : (cs ds : List Channel) (a b x : Valuation) → combined (union cs ds) (combined cs a b) x ≡ combined cs a (combined ds b x)
combined-union cs ds a b x = fun_ext (λ c. by_test (has cs c)
    (λ e. if-true (has (union cs ds) c) _ _ (in_union_left cs ds c e) ∙ if-true (has cs c) _ _ e ∙ sym (if-true (has cs c) _ _ e))
    (λ e. let rest : has (union cs ds) c ≡ has ds c = has-union cs ds c ∙ ap (λ b. b || has ds c) e in
    ap (λ (t : Bool). if t then combined cs a b c else x c) rest ∙
    if_same (has ds c) _ _ _ _ (λ k. if-false (has cs c) _ _ e) (λ k. refl) ∙
    sym (if-false (has cs c) _ _ e)))

-- one valuation at a union
pub combined_union : (cs ds : List Channel) (s x : Valuation) → combined (union cs ds) s x ≡ combined cs s (combined ds s x)
combined_union cs ds s x =
    ap (λ y. combined (union cs ds) y x) (fun_ext (λ c. by_test (has cs c) (λ e. sym (if-true (has cs c) _ _ e)) (λ e. sym (if-false (has cs c) _ _ e)))) ∙
    combined-union cs ds s s x

-- one valuation at two sets, in the other order
pub combined_comm : (cs ds : List Channel) (s x : Valuation) → combined cs s (combined ds s x) ≡ combined ds s (combined cs s x)
combined_comm cs ds s x = fun_ext (λ c. by_test (has cs c)
    (λ e. if-true (has cs c) _ _ e ∙ by_test (has ds c)
    (λ k. sym (if-true (has ds c) _ _ k))
    (λ k. sym (if-false (has ds c) _ _ k ∙ if-true (has cs c) _ _ e)))
    (λ e. if-false (has cs c) _ _ e ∙ if_same (has ds c) _ _ _ _ (λ k. refl) (λ k. sym (if-false (has cs c) _ _ e))))

-- of a combination only the second counts at a set that is disjoint from that of the first
pub combined_past : (cs ds : List Channel) (y u x : Valuation) → AreDisjoint cs ds → combined ds (combined cs y u) x ≡ combined ds u x
combined_past cs ds y u x apart = fun_ext (λ c. if_same (has ds c) _ _ _ _
    (λ k. if-false (has cs c) _ _ (AreDisjoint_swap cs ds apart c k))
    (λ k. refl))

-- a channel that is not in the set may be taken out before
pub combined-taken_out : (cs : List Channel) (c : Channel) (p s : Valuation) → has cs c ≡ false → combined cs p (taken_out c s) ≡ taken_out c (combined cs p s)
combined-taken_out cs c p s h = fun_ext (λ d. by_test (same_channel c d)
    (λ e. let k = at_same_channel (λ x. has cs x ≡ false) c d e h in
    if-false (has cs d) _ _ k ∙ if-true (same_channel c d) _ _ e ∙ sym (if-true (same_channel c d) _ _ e))
    (λ e. if_same (has cs d) (p d) (p d) _ _ (λ k. refl) (λ k. if-false (same_channel c d) _ _ e) ∙ sym (if-false (same_channel c d) _ _ e)))

-- of the first only the channels of the set count
pub combined_twice : (cs : List Channel) (p q x : Valuation) → combined cs (combined cs p q) x ≡ combined cs p x
combined_twice cs p q x = fun_ext (λ c. by_test (has cs c)
    (λ e. if-true (has cs c) _ _ e ∙ if-true (has cs c) _ _ e ∙ sym (if-true (has cs c) _ _ e))
    (λ e. if-false (has cs c) _ _ e ∙ sym (if-false (has cs c) _ _ e)))

-- two parts that write different channels, combined in the other order
pub combined_swap : (cs ds : List Channel) (x y : Valuation) → AreDisjoint cs ds → WritesOnly cs x → WritesOnly ds y → combined cs x y ≡ combined ds y x
combined_swap cs ds x y apart only_x only_y = fun_ext (λ c. by_test (has cs c)
    (λ e. if-true (has cs c) _ _ e ∙ sym (if-false (has ds c) _ _ (apart c e)))
    (λ e. if-false (has cs c) _ _ e ∙ by_test (has ds c)
    (λ k. sym (if-true (has ds c) _ _ k))
    (λ k. only_y c k ∙ sym (only_x c e) ∙ sym (if-false (has ds c) _ _ k))))

-- the same combination
pub combined_same : (cs ds : List Channel) → SameSet cs ds → combined cs ≡ combined ds
combined_same cs ds h = fun_ext (λ p. fun_ext (λ q. fun_ext (λ c. ap (λ b. if b then p c else q c) (h c))))

-- the same channels taken out
pub all_taken_out_same : (cs ds : List Channel) → SameSet cs ds → all_taken_out cs ≡ all_taken_out ds
all_taken_out_same cs ds h = fun_ext (λ p. fun_ext (λ c. ap (λ (b : Bool). if b then None else p c) (h c)))
