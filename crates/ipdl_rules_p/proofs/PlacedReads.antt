-- Tests of what a reaction reads: at a place, on every way, nothing at all.
use Rattle.std.proofs.Common.{◌≡◌, ◌≢◌, ℕ, zero, suc, true, false, ◌||◌, List, [], ◌∷◌, length, ◌==◌, Option, Some, refl, sym, ap, ◌∙◌, arith}
use Rattle.std.proofs.lemmas.Bool.{and_from, and_parts, or_left, or_right}
use Rattle.std.proofs.lemmas.Bool.Decides.{nat_tests}
use Rattle.std.specs.List.{list_all}
use Rattle.ipdl_laws.proofs.Sets.{by_test, at_same_channel, not_both, test_same}
use Rattle.ipdl_rules_p.specs.Matching.{is_read_of, is_read_at, is_empty, is_within}
use Rattle.ipdl_rules_p.specs.ReadPlaces.{IsReadAt}
use Rattle.ipdl_term.proofs.ChannelSets.{same_channel-sound, same_channel-itself}
use Rattle.ipdl_term.specs.Channels.{same_channel, has, SameSet, IsWithin}
use Rattle.ipdl_term.specs.Places.{term_at}
use Rattle.ipdl_term.specs.Terms.{Channel, Expression, application, exclusive, conjunction, negation, concatenation, segment, equality, selection, Reaction, returning, reading, branching, binding, Term, reaction_term, expression_term}

-- ---- at places

-- nothing is read in an expression
unread_in_expression : (c : Channel) (e : Expression) (place : List ℕ) → is_read_of c (term_at (expression_term e) place) ≡ false
unread_in_expression c e [] = refl
unread_in_expression c (application f a) (zero ∷ place) = unread_in_expression c a place
unread_in_expression c (exclusive a b) (zero ∷ place) = unread_in_expression c a place
unread_in_expression c (exclusive a b) (suc zero ∷ place) = unread_in_expression c b place
unread_in_expression c (conjunction a b) (zero ∷ place) = unread_in_expression c a place
unread_in_expression c (conjunction a b) (suc zero ∷ place) = unread_in_expression c b place
unread_in_expression c (negation a) (zero ∷ place) = unread_in_expression c a place
unread_in_expression c (concatenation a b) (zero ∷ place) = unread_in_expression c a place
unread_in_expression c (concatenation a b) (suc zero ∷ place) = unread_in_expression c b place
unread_in_expression c (segment i m a) (zero ∷ place) = unread_in_expression c a place
unread_in_expression c (equality a b) (zero ∷ place) = unread_in_expression c a place
unread_in_expression c (equality a b) (suc zero ∷ place) = unread_in_expression c b place
unread_in_expression c (selection d a b) (zero ∷ place) = unread_in_expression c d place
unread_in_expression c (selection d a b) (suc zero ∷ place) = unread_in_expression c a place
unread_in_expression c (selection d a b) (suc (suc zero) ∷ place) = unread_in_expression c b place
unread_in_expression c _ _ = refl

pub unread_in_returning : (c : Channel) (e : Expression) (n : ℕ) (place : List ℕ) → is_read_at c (returning e) (n ∷ place) ≡ false
unread_in_returning c e zero place = unread_in_expression c e place
unread_in_returning c e (suc n) place = refl

pub unread_beside_arms : (c : Channel) (e : Expression) (r s : Reaction) (n : ℕ) (place : List ℕ) → n ≢ 1 → n ≢ 2 → is_read_at c (branching e r s) (n ∷ place) ≡ false
unread_beside_arms c e r s zero place h k = unread_in_expression c e place
unread_beside_arms c e r s (suc zero) place h k = absurd (h refl)
unread_beside_arms c e r s (suc (suc zero)) place h k = absurd (k refl)
unread_beside_arms c e r s (suc (suc (suc n))) place h k = refl

pub unread_beside_parts : (c : Channel) (w : ℕ) (r s : Reaction) (n : ℕ) (place : List ℕ) → n ≢ 0 → n ≢ 1 → is_read_at c (binding w r s) (n ∷ place) ≡ false
unread_beside_parts c w r s zero place h k = absurd (h refl)
unread_beside_parts c w r s (suc zero) place h k = absurd (k refl)
unread_beside_parts c w r s (suc (suc n)) place h k = refl

pub ruleset reads_at_places = (unread_in_returning, unread_beside_arms, unread_beside_parts)

-- the test is the fact
pub read_is_there : (c : Channel) (k : Reaction) (place : List ℕ) → is_read_at c k place ≡ true → IsReadAt c k place
read_is_there c k place h = there (term_at (reaction_term k) place) refl h
  where
    there : (t : Option Term) → term_at (reaction_term k) place ≡ t → is_read_of c t ≡ true → IsReadAt c k place
    there (Some (reaction_term (reading d))) at is = at ∙ ap (λ e. Some (reaction_term (reading e))) (same_channel-sound d c is)
    there _ at is = cc

pub there_is_read : (c : Channel) (k : Reaction) (place : List ℕ) → IsReadAt c k place → is_read_at c k place ≡ true
there_is_read c k place at = ap (is_read_of c) at ∙ same_channel-itself c

-- ---- sets

-- a set within another one
pub within_is_within : (cs ds : List Channel) → is_within cs ds ≡ true → IsWithin cs ds
within_is_within [] ds h e k = cc
within_is_within (c ∷ cs) ds h e k =
    let both = and_parts (has ds c) (is_within cs ds) h in
    by_test (same_channel c e)
    (λ l. at_same_channel (λ x. has ds x ≡ true) c e l both.0)
    (λ l. within_is_within cs ds both.1 e (sym (ap (λ b. b || has cs e) l) ∙ k))

pub is_within_of : (cs ds : List Channel) → IsWithin cs ds → is_within cs ds ≡ true
is_within_of [] ds h = refl
is_within_of (c ∷ cs) ds h = and_from (has ds c) (is_within cs ds)
    (h c (or_left (same_channel c c) (has cs c) (same_channel-itself c)))
    (is_within_of cs ds (λ e k. h e (or_right (same_channel c e) (has cs e) k)))

-- the test does not look at which lists stand for the sets
pub is_within-same : (cs cs' ds ds' : List Channel) → SameSet cs cs' → SameSet ds ds' → list_all (has ds) cs ≡ list_all (has ds') cs'
is_within-same cs cs' ds ds' same same' = test_same (is_within cs ds) (is_within cs' ds')
    (λ h. is_within_of cs' ds' (λ e k. sym (same' e) ∙ within_is_within cs ds h e (same e ∙ k)))
    (λ h. is_within_of cs ds (λ e k. same' e ∙ within_is_within cs' ds' h e (sym (same e) ∙ k)))

pub ruleset within = (is_within-same)

-- the empty set
pub empty_is_empty : (cs : List Channel) → is_empty cs ≡ true → cs ≡ []
empty_is_empty [] h = refl
empty_is_empty (c ∷ cs) h = cc

not_empty : (c : Channel) (cs : List Channel) → SameSet [] (c ∷ cs) → ⊥
not_empty c cs same = not_both (has (c ∷ cs) c) (or_left (same_channel c c) (has cs c) (same_channel-itself c)) (sym (same c))

pub is_empty-same : (cs ds : List Channel) → SameSet cs ds → is_empty cs ≡ is_empty ds
is_empty-same [] [] same = refl
is_empty-same [] (d ∷ ds) same = absurd (not_empty d ds same)
is_empty-same (c ∷ cs) [] same = absurd (not_empty c cs (λ e. sym (same e)))
is_empty-same (c ∷ cs) (d ∷ ds) same = refl

pub length_is_zero : (cs : List Channel) → (length cs == 0) ≡ is_empty cs
length_is_zero [] = refl
length_is_zero (c ∷ cs) = grind (arith, nat_tests)
