-- Instances are exactly where no side condition fails, and have one right side.
use Rattle.std.proofs.Common.{◌≡◌, ◌≢◌, ℕ, suc, Bool, true, false, ◌&&◌, List, [], ◌∷◌, Option, refl, sym, ap, ◌∙◌, subst}
use Rattle.std.proofs.lemmas.Bool.{and_parts, and_from}
use Rattle.std.specs.Cmp.{unsigned_Decides}
use Rattle.std.specs.Prelude.{not, nat_eq, ◌↔◌}
use Rattle.ipdl_laws.proofs.Sets.{not_both}
use Rattle.ipdl_rules_p.proofs.PlacedReads.{read_is_there, there_is_read, within_is_within, is_within_of, empty_is_empty}
use Rattle.ipdl_rules_p.proofs.ReadPlaces.{one_read_place}
use Rattle.ipdl_rules_p.proofs.RuleLaws.{different}
use Rattle.ipdl_rules_p.specs.Instances.{IsProtocolInstance}
use Rattle.ipdl_rules_p.specs.Matching.{is_read_at, is_empty, is_within, Matched, if_shape, Answer, gives, after_sides, answer_of, answer}
use Rattle.ipdl_rules_p.specs.ReadPlaces.{read_count}
use Rattle.ipdl_term.proofs.ChannelSets.{same_channel-sound, same_channel-itself}
use Rattle.ipdl_term.specs.Channels.{same_channel, has, reads, must_reads, outputs, free_channels}
use Rattle.ipdl_term.specs.Renaming.{occurs}
use Rattle.ipdl_term.specs.Rules.{Rule}
use Rattle.ipdl_term.specs.Rules as R
use Rattle.ipdl_term.specs.Terms.{Channel, reading, binding, Protocol, nil, assignment, parallel, hiding}
use Rattle.ipdl_term.specs.Variables.{reaction_uses, has_flip}

-- the right side of an answer that has one
abbrev right_or : Protocol → Answer → Protocol
right_or p (gives q) = q
right_or p _ = p

pub gives_injective : (p q : Protocol) → gives p ≡ gives q → p ≡ q
gives_injective p q e = ap (right_or p) e

-- all side conditions hold
abbrev AllHold : List Bool → Type 0
AllHold [] = Unit {0}
AllHold (side ∷ sides) = (side ≡ true) × AllHold sides

-- where they hold, the answer is the right side
answer_after : (number : ℕ) (sides : List Bool) (q right : Protocol) → AllHold sides → right ≡ q → after_sides number sides q ≡ gives right
answer_after number [] q right hold e = ap gives (sym e)
answer_after number (true ∷ sides) q right hold e = answer_after (suc number) sides q right hold.1 e
answer_after number (false ∷ sides) q right hold e = cc

-- and where it is, they hold
hold_before : (number : ℕ) (sides : List Bool) (q right : Protocol) → after_sides number sides q ≡ gives right → AllHold sides × (right ≡ q)
hold_before number [] q right e = (tt, gives_injective right q (sym e))
hold_before number (true ∷ sides) q right e = let rest = hold_before (suc number) sides q right e in ((refl, rest.0), rest.1)
hold_before number (false ∷ sides) q right e = cc

-- a shape of which a part is a test
answer_if_shape : (b : Bool) (m : Option Matched) (a : Answer) → b ≡ true → answer_of m ≡ a → answer_of (if_shape b m) ≡ a
answer_if_shape true m a is h = h
answer_if_shape false m a is h = cc

shape_if_answered : (b : Bool) (m : Option Matched) (right : Protocol) → answer_of (if_shape b m) ≡ gives right → (b ≡ true) × (answer_of m ≡ gives right)
shape_if_answered true m right h = (refl, h)
shape_if_answered false m right h = cc

not_false : (b : Bool) → not b ≡ true → b ≡ false
not_false true h = cc
not_false false h = refl

-- channels that are the same
same_by_fact : (c d : Channel) → c ≡ d → same_channel c d ≡ true
same_by_fact c d e = subst (λ x. same_channel c x ≡ true) e (same_channel-itself c)

-- channels that differ are told apart
apart_by_fact : (c d : Channel) → c ≢ d → not (same_channel c d) ≡ true
apart_by_fact c d h = ap not (different c d h)

-- channels that are told apart differ
different_by_test : (c d : Channel) → not (same_channel c d) ≡ true → c ≢ d
different_by_test c d h e = not_both (same_channel c d) (subst (λ x. same_channel c x ≡ true) e (same_channel-itself c)) (not_false (same_channel c d) h)

-- an instance has its right side as the answer
pub instance_answers : (rule : Rule) (left right : Protocol) → IsProtocolInstance rule left right → answer rule left ≡ gives right
instance_answers R.comm (parallel p q) right h = ap gives (sym h)
instance_answers R.assocl (parallel p (parallel q r)) right h = ap gives (sym h)
instance_answers R.assocr (parallel (parallel p q) r) right h = ap gives (sym h)
instance_answers R.unit (parallel p nil) right h = ap gives (sym h)
instance_answers R.newswap (hiding c v (hiding d w p)) right h =
    answer_after 1 (not (same_channel c d) ∷ []) (hiding d w (hiding c v p)) right (apart_by_fact c d h.0, tt) h.1
instance_answers R.scope (parallel p (hiding c w q)) right h =
    answer_after 1 (not (has (free_channels p) c) ∷ []) (hiding c w (parallel p q)) right (ap not h.0, tt) h.1
instance_answers (R.rename d) (hiding c w p) right h = answer_after 1 (not (occurs d p) ∷ []) _ right (ap not h.0, tt) h.1
instance_answers R.absorb (parallel p q) right h = answer_after 1 (is_empty (outputs q) ∷ []) _ right (ap is_empty h.0, tt) h.1
instance_answers (R.fold place) (hiding c w (parallel (assignment o k) (assignment d r))) right h =
    answer_if_shape (same_channel d c && (not (same_channel o c) && is_read_at c k place)) _ (gives right)
    (and_from _ _ (same_by_fact d c h.hidden) (and_from _ _ (apart_by_fact o c h.shown) (there_is_read c k place h.read_here)))
    (answer_after 1 (nat_eq (read_count c k) 1 ∷ not (has (reads r) c) ∷ []) _ right
    ((unsigned_Decides (read_count c k) 1).1 ((one_read_place c k place h.read_here).0 h.read_once), (ap not h.unread, tt)) h.becomes)
instance_answers (R.subst place) (parallel (assignment a r) (assignment b k)) right h =
    answer_if_shape (not (same_channel a b) && is_read_at a k place) _ (gives right)
    (and_from _ _ (apart_by_fact a b h.two) (there_is_read a k place h.read_here))
    (answer_after 1 (not (has_flip r) ∷ []) _ right (ap not h.no_flip, tt) h.becomes)
instance_answers R.drop (parallel (assignment a r) (assignment b (binding w (reading e) s))) right h =
    answer_if_shape (same_channel e a && not (same_channel a b)) _ (gives right)
    (and_from _ _ (same_by_fact e a h.same) (apart_by_fact a b h.two))
    (answer_after 1 (not (reaction_uses s 0) ∷ is_within (reads r) (must_reads s) ∷ []) _ right
    (ap not h.unused, (is_within_of (reads r) (must_reads s) h.read_anyway, tt)) h.becomes)
instance_answers (R.subsume c w) (parallel (assignment a r) (assignment b s)) right h =
    answer_if_shape (not (same_channel a b)) _ (gives right) (apart_by_fact a b h.two)
    (answer_after 1 (has (must_reads s) a ∷ has (must_reads r) c ∷ []) _ right (h.reads_first, (h.first_reads, tt)) h.becomes)
instance_answers R.diverge (assignment a r) right h = answer_after 1 (has (must_reads r) a ∷ []) _ right (h.0, tt) h.1
instance_answers _ _ _ h = absurd h

-- what is answered as a right side makes an instance
pub answer_is_instance : (rule : Rule) (left right : Protocol) → answer rule left ≡ gives right → IsProtocolInstance rule left right
answer_is_instance R.comm (parallel p q) right h = gives_injective _ _ (sym h)
answer_is_instance R.assocl (parallel p (parallel q r)) right h = gives_injective _ _ (sym h)
answer_is_instance R.assocr (parallel (parallel p q) r) right h = gives_injective _ _ (sym h)
answer_is_instance R.unit (parallel p nil) right h = gives_injective _ _ (sym h)
answer_is_instance R.newswap (hiding c v (hiding d w p)) right h =
    let o = hold_before 1 (not (same_channel c d) ∷ []) (hiding d w (hiding c v p)) right h in
    (different_by_test c d o.0.0, o.1)
answer_is_instance R.scope (parallel p (hiding c w q)) right h =
    let o = hold_before 1 (not (has (free_channels p) c) ∷ []) (hiding c w (parallel p q)) right h in
    (not_false (has (free_channels p) c) o.0.0, o.1)
answer_is_instance (R.rename d) (hiding c w p) right h =
    let o = hold_before 1 (not (occurs d p) ∷ []) _ right h in (not_false (occurs d p) o.0.0, o.1)
answer_is_instance R.absorb (parallel p q) right h =
    let o = hold_before 1 (is_empty (outputs q) ∷ []) _ right h in (empty_is_empty (outputs q) o.0.0, o.1)
answer_is_instance (R.fold place) (hiding c w (parallel (assignment o k) (assignment d r))) right h =
    let shape = shape_if_answered (same_channel d c && (not (same_channel o c) && is_read_at c k place)) _ right h in
    let names = and_parts (same_channel d c) (not (same_channel o c) && is_read_at c k place) shape.0 in
    let rest = and_parts (not (same_channel o c)) (is_read_at c k place) names.1 in
    let holds = hold_before 1 (nat_eq (read_count c k) 1 ∷ not (has (reads r) c) ∷ []) _ right shape.1 in
    let here = read_is_there c k place rest.1 in
    record {
      hidden = same_channel-sound d c names.0;
      shown = different_by_test o c rest.0;
      read_here = here;
      read_once = (one_read_place c k place here).1 ((unsigned_Decides (read_count c k) 1).0 holds.0.0);
      unread = not_false (has (reads r) c) holds.0.1.0;
      becomes = holds.1;
    }
answer_is_instance (R.subst place) (parallel (assignment a r) (assignment b k)) right h =
    let shape = shape_if_answered (not (same_channel a b) && is_read_at a k place) _ right h in
    let both = and_parts (not (same_channel a b)) (is_read_at a k place) shape.0 in
    let holds = hold_before 1 (not (has_flip r) ∷ []) _ right shape.1 in
    record {
      two = different_by_test a b both.0;
      read_here = read_is_there a k place both.1;
      no_flip = not_false (has_flip r) holds.0.0;
      becomes = holds.1;
    }
answer_is_instance R.drop (parallel (assignment a r) (assignment b (binding w (reading e) s))) right h =
    let shape = shape_if_answered (same_channel e a && not (same_channel a b)) _ right h in
    let both = and_parts (same_channel e a) (not (same_channel a b)) shape.0 in
    let holds = hold_before 1 (not (reaction_uses s 0) ∷ is_within (reads r) (must_reads s) ∷ []) _ right shape.1 in
    record {
      same = same_channel-sound e a both.0;
      two = different_by_test a b both.1;
      unused = not_false (reaction_uses s 0) holds.0.0;
      read_anyway = within_is_within (reads r) (must_reads s) holds.0.1.0;
      becomes = holds.1;
    }
answer_is_instance (R.subsume c w) (parallel (assignment a r) (assignment b s)) right h =
    let shape = shape_if_answered (not (same_channel a b)) _ right h in
    let holds = hold_before 1 (has (must_reads s) a ∷ has (must_reads r) c ∷ []) _ right shape.1 in
    record {
      two = different_by_test a b shape.0;
      reads_first = holds.0.0;
      first_reads = holds.0.1.0;
      becomes = holds.1;
    }
answer_is_instance R.diverge (assignment a r) right h =
    let holds = hold_before 1 (has (must_reads r) a ∷ []) _ right h in (holds.0.0, holds.1)
answer_is_instance _ _ _ h = cc

pub instance_exactly : (rule : Rule) (left right : Protocol) → IsProtocolInstance rule left right ↔ (answer rule left ≡ gives right)
instance_exactly rule left right = (instance_answers rule left right, answer_is_instance rule left right)

-- two right sides of one left side are one answer
pub one_right_side : (rule : Rule) (left one other : Protocol) → IsProtocolInstance rule left one → IsProtocolInstance rule left other → one ≡ other
one_right_side rule left one other h k = gives_injective one other (sym (instance_answers rule left one h) ∙ instance_answers rule left other k)
