-- That the side conditions of the rules are needed: for each one a left side that fails it alone, what the rule would make
-- of it, and that the two are told apart.
use Rattle.std.specs.Prelude.{◌≡◌, ℕ, ◌-◌, List, [], ◌++◌, Option, Some, None, take, drop}
use Rattle.ipdl_laws.specs.Refutations.{AreToldApart, one_bit_interface}
use Rattle.ipdl_rules_p.specs.Matching.{Matched, matched, Answer, other_shape, failing, gives, after_sides, answer}
use Rattle.ipdl_term.specs.Rules.{Rule}
use Rattle.ipdl_term.specs.Terms.{Channel, Expression, literal, variable, concatenation, segment, Reaction, returning, flipping, reading, branching, binding, Protocol, nil, assignment, parallel, hiding}
use Rattle.ipdl_term.specs.Worked.{a, b, c, k, m, one, zero_bit}

-- ---- what is refuted

-- what a rule would answer if it did not ask its side condition of this number
abbrev pub answer_without : (number : ℕ) → Rule → Protocol → Answer
answer_without number rule left = answer_of_others (matched rule left)
  where
    answer_of_others : Option Matched → Answer
    answer_of_others None = other_shape
    answer_of_others (Some match) = after_sides 1 (take (number - 1) match.sides ++ drop number match.sides) match.right

-- a left side, and what a rule would make of it
pub record Pair : Type 0 where
  pub left : Protocol
  pub right : Protocol

-- the left side fails the side condition of this number, the rule without it would give the right side, and the two are
-- told apart, where these channels are inputs and outputs, each of one bit
pub record IsRefutedWithout (number : ℕ) (rule : Rule) (inputs outputs : List Channel) (pair : Pair) : Type 0 where
  pub fails : answer rule pair.left ≡ failing number
  pub otherwise : answer_without number rule pair.left ≡ gives pair.right
  pub apart : AreToldApart [] (one_bit_interface inputs outputs) pair.left pair.right

-- ---- parts

-- `(out CHANNEL (ret #1))`
abbrev pub one_on : Channel → Protocol
one_on channel = assignment channel (returning (literal one))

-- `(out CHANNEL (read OTHER))`
abbrev pub copy_on : Channel → Channel → Protocol
copy_on channel other = assignment channel (reading other)

-- `(if #1 (ret #1) (read CHANNEL))`, which reads the channel on a way that is never taken
abbrev pub one_or_read : Channel → Reaction
one_or_read channel = branching (literal one) (returning (literal one)) (reading channel)

-- `(cut 0 1 (cat E #0))`: the first bit of E, and 0 where E has none. A rule that takes a binder away puts `#` for its
-- variable, and this is typed with either.
abbrev pub first_bit : Expression → Expression
first_bit e = segment 0 1 (concatenation e (literal zero_bit))

-- ---- hidden channels

-- a copies the c outside, and then the hidden one:
-- `(par (out a (read c)) (new ((c 1)) (out c (ret #1))))`
-- `(new ((c 1)) (par (out a (read c)) (out c (ret #1))))`
abbrev pub scope_of_a_free_channel : Pair
scope_of_a_free_channel = record {
  left = parallel (copy_on a c) (hiding c 1 (one_on c));
  right = hiding c 1 (parallel (copy_on a c) (one_on c));
}

-- a copies the k outside, and then the hidden one:
-- `(new ((c 1)) (par (out c (ret #1)) (out a (read k))))`
-- `(new ((k 1)) (par (out k (ret #1)) (out a (read k))))`
abbrev pub rename_to_a_free_name : Pair
rename_to_a_free_name = record {
  left = hiding c 1 (parallel (one_on c) (copy_on a k));
  right = hiding k 1 (parallel (one_on k) (copy_on a k));
}

-- a copies the outer hidden channel, which has 1, and then the inner one, which has 0:
-- `(new ((c 1)) (par (out c (ret #1)) (new ((k 1)) (par (out k (ret #0)) (out a (read c))))))`
-- `(new ((k 1)) (par (out k (ret #1)) (new ((k 1)) (par (out k (ret #0)) (out a (read k))))))`
abbrev pub rename_to_a_hidden_name : Pair
rename_to_a_hidden_name = record {
  left = hiding c 1 (parallel (one_on c) (copy_of_inner c));
  right = hiding k 1 (parallel (one_on k) (copy_of_inner k));
}
  where
    copy_of_inner : Channel → Protocol
    copy_of_inner channel = hiding k 1 (parallel (assignment k (returning (literal zero_bit))) (copy_on a channel))

-- a part that writes:
-- `(par (nil) (out a (ret #1)))`
-- `(nil)`
abbrev pub absorb_of_an_output : Pair
absorb_of_an_output = record {
  left = parallel nil (one_on a);
  right = nil;
}

-- the second read of c is then one of the c outside:
-- `(new ((c 1)) (par (out a (bind x 1 (read c) (read c))) (out c (ret #1))))`
-- `(out a (bind x 1 (ret #1) (read c)))`
abbrev pub fold_of_two_reads : Pair
fold_of_two_reads = record {
  left = hiding c 1 (parallel (assignment a (binding 1 (reading c) (reading c))) (one_on c));
  right = assignment a (binding 1 (returning (literal one)) (reading c));
}

-- the hidden c waits for itself, and a then copies the c outside:
-- `(new ((c 1)) (par (out a (read c)) (out c (read c))))`
-- `(out a (read c))`
abbrev pub fold_of_an_own_read : Pair
fold_of_an_own_read = record {
  left = hiding c 1 (parallel (copy_on a c) (copy_on c c));
  right = copy_on a c;
}

-- ---- two assignments

-- b is the same fair bit as a, and then another one:
-- `(par (out a (flip 1)) (out b (read a)))`
-- `(par (out a (flip 1)) (out b (flip 1)))`
abbrev pub subst_of_a_flip : Pair
subst_of_a_flip = record {
  left = parallel (assignment a (flipping 1)) (copy_on b a);
  right = parallel (assignment a (flipping 1)) (assignment b (flipping 1));
}

-- the bit of a, and without it 0:
-- `(par (out a (ret #1)) (out b (bind x 1 (read a) (ret (cut 0 1 (cat x #0))))))`
-- `(par (out a (ret #1)) (out b (ret (cut 0 1 (cat # #0)))))`
abbrev pub drop_of_a_use : Pair
drop_of_a_use = record {
  left = parallel (one_on a) (assignment b (binding 1 (reading a) (returning (first_bit (variable 0)))));
  right = parallel (one_on a) (assignment b (returning (first_bit (literal []))));
}

-- where m is never written, a waits for ever and b for a, and then b no longer:
-- `(par (out a (read m)) (out b (bind x 1 (read a) (if #1 (ret #1) (read m)))))`
-- `(par (out a (read m)) (out b (if #1 (ret #1) (read m))))`
abbrev pub drop_before_an_arm : Pair
drop_before_an_arm = record {
  left = parallel (copy_on a m) (assignment b (binding 1 (reading a) (one_or_read m)));
  right = parallel (copy_on a m) (assignment b (one_or_read m));
}

-- where m is never written, a waits for ever, b does not, and then b does:
-- `(par (out a (read m)) (out b (ret #1)))`
-- `(par (out a (read m)) (out b (bind x 1 (read m) (ret #1))))`
abbrev pub subsume_beside_another : Pair
subsume_beside_another = record {
  left = parallel (copy_on a m) (one_on b);
  right = parallel (copy_on a m) (assignment b (binding 1 (reading m) (returning (literal one))));
}

-- where m is never written, a does not wait for it, nor b, which copies a, and then b does:
-- `(par (out a (if #1 (ret #1) (read m))) (out b (read a)))`
-- `(par (out a (if #1 (ret #1) (read m))) (out b (bind x 1 (read m) (read a))))`
abbrev pub subsume_of_an_arm : Pair
subsume_of_an_arm = record {
  left = parallel (assignment a (one_or_read m)) (copy_on b a);
  right = parallel (assignment a (one_or_read m)) (assignment b (binding 1 (reading m) (reading a)));
}

-- a does not wait for itself, and then it does:
-- `(out a (if #1 (ret #1) (read a)))`
-- `(out a (read a))`
abbrev pub diverge_of_an_arm : Pair
diverge_of_an_arm = record {
  left = assignment a (one_or_read a);
  right = copy_on a a;
}
