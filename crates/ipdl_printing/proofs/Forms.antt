-- Forms that are written piece by piece.
use Rattle.std.proofs.Common.{◌≡◌, ℕ, true, List, [], ◌∷◌, ◌++◌, refl, sym, ap, ◌∙◌, append-nil, append_assoc}
use Rattle.std.specs.Prelude.{codes}
use Rattle.ipdl_base.specs.Names.{is_name}
use Rattle.ipdl_tree.specs.Spelling.{tree_text, more_text}
use Rattle.ipdl_tree.specs.Trees.{Located, group}
use Rattle.ipdl_tree.specs.Views.{forest}
use Rattle.ipdl_tree.specs.WellFormed.{AreWellFormed}
use Rattle.ipdl_printing.specs.Printing.{headed}
use Rattle.ipdl_printing.specs.Writes.{WritesTree, WritesMore}

more_text-append : (ts us : List Located) → more_text (forest (ts ++ us)) ≡ more_text (forest ts) ++ more_text (forest us)
more_text-append [] us = refl
more_text-append (t ∷ ts) us = simp (more_text-append ts us, append_assoc)

AreWellFormed-append : (ts us : List Located) → AreWellFormed (forest ts) → AreWellFormed (forest us) → AreWellFormed (forest (ts ++ us))
AreWellFormed-append [] us p q = q
AreWellFormed-append (t ∷ ts) us p q = (p.0, AreWellFormed-append ts us p.1 q)

-- some trees, and then others
pub and_more : (a b c : List ℕ) (ts us : List Located) → WritesMore a b ts → WritesMore b c us → WritesMore a c (ts ++ us)
and_more a b c ts us first second = record {
  text = second.text ∙ ap (λ (s : List ℕ). s ++ more_text (forest us)) first.text ∙ append_assoc a (more_text (forest ts)) (more_text (forest us)) ∙ simp (more_text-append ts us);
  formed = AreWellFormed-append ts us first.formed second.formed;
}

-- a blank and a tree
pub one_more : (a b c : List ℕ) (t : Located) → b ≡ a ++ codes " " → WritesTree b c t → WritesMore a c (t ∷ [])
one_more a b c t blank tree = record {
  text = tree.text ∙ ap (λ (s : List ℕ). s ++ tree_text t) blank ∙ simp (append_assoc, append-nil);
  formed = (tree.formed, tt);
}

-- a list with a word in front: its head, then its parts, and the end
pub form : (old a b c head : List ℕ) (parts : List Located) → is_name head ≡ true → a ≡ old ++ (codes "(" ++ head) → WritesMore a b parts → c ≡ b ++ codes ")" → WritesTree old c (headed head parts)
form old a b c head parts named begun more ended = record {
  text = ended ∙ ap (λ (s : List ℕ). s ++ codes ")") (more.text ∙ ap (λ (s : List ℕ). s ++ more_text (forest parts)) begun) ∙ simp append_assoc;
  formed = (named, more.formed);
}

-- a list of trees: the first one, the others, and the end
pub list : (old a b c d : List ℕ) (t : Located) (ts : List Located) → a ≡ old ++ codes "(" → WritesTree a b t → WritesMore b c ts → d ≡ c ++ codes ")" → WritesTree old d (group 0 (forest (t ∷ ts)))
list old a b c d t ts begun first more ended = record {
  text = ended ∙ ap (λ (s : List ℕ). s ++ codes ")") (more.text ∙ ap (λ (s : List ℕ). s ++ more_text (forest ts)) (first.text ∙ ap (λ (s : List ℕ). s ++ tree_text t) begun)) ∙ simp append_assoc;
  formed = (first.formed, more.formed);
}

-- the same, the head being written with a blank after it
pub form_from_tree : (old a b c d head : List ℕ) (t : Located) (ts : List Located) → is_name head ≡ true → a ≡ old ++ (codes "(" ++ head ++ codes " ") → WritesTree a b t → WritesMore b c ts → d ≡ c ++ codes ")" → WritesTree old d (headed head (t ∷ ts))
form_from_tree old a b c d head t ts named begun first more ended =
    let opened = old ++ (codes "(" ++ head) in
    let blank = begun ∙ sym (append_assoc old (codes "(" ++ head) (codes " ")) in
    form old opened c d head (t ∷ ts) named refl (and_more opened b c (t ∷ []) ts (one_more opened a b t blank first) more) ended
