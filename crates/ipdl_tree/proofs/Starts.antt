-- Which token a character starts, and that what ends a token goes on with none.
use Rattle.std.proofs.Common.{◌≡◌, ℕ, ◌<◌, ◌≤◌, Bool, true, false, ◌||◌, eqb, ltb, ◌⊎◌, inl, inr, ⊎_elim, refl, sym, ◌∙◌, arith}
use Rattle.std.specs.Int.{is_in_range}
use Rattle.std.specs.Char.{is_ascii_alphabetic, is_ascii_alphanumeric}
use Rattle.std.proofs.lemmas.Bool.{false_from_ne_true}
use Rattle.std.proofs.lemmas.Bool.Decides.{nat_tests}
use Rattle.unicode_ident.specs.Ident.{is_xid_start, is_xid_continue}
use Rattle.unicode_ident.proofs.IdentLemmas.{is_xid_start-ascii, is_xid_continue-ascii}
use Rattle.ipdl_base.specs.Names.{starts_name, continues_name}
use Rattle.ipdl_tree.specs.declared.character.Beginning.TheVariants.{Blank, Number, Word}
use Rattle.ipdl_tree.specs.Spelling.{is_blank, ends_token}
use Rattle.ipdl_tree.specs.Characters.{is_digit, beginning_of}
use Rattle.ipdl_tree.proofs.Beginnings.{by_tests}
use Rattle.ipdl_tree.proofs.Characters.{or-cases, eqb-same, ends_token-ascii, is_digit-range}

in_range-low : (low high c : ℕ) → is_in_range low high c ≡ true → low ≤ c
in_range-low low high c e = grind (arith, nat_tests)

below_or_not : (c n : ℕ) → (c < n) ⊎ (n ≤ c)
below_or_not c n = go (ltb c n) refl
  where
    go : (b : Bool) → ltb c n ≡ b → (c < n) ⊎ (n ≤ c)
    go true e = inl (grind (arith, nat_tests))
    go false e = inr (grind (arith, nat_tests))

xid_start-high : (c : ℕ) → c < 128 → is_xid_start c ≡ true → 65 ≤ c
xid_start-high c small e =
    let letter : is_ascii_alphabetic c ≡ true = sym (is_xid_start-ascii c small) ∙ e in
    ⊎_elim (λ h. in_range-low 65 90 c h) (λ h. omega (arith, in_range-low 97 122 c h)) (or-cases (is_in_range 65 90 c) (is_in_range 97 122 c) letter)

-- a name starts with a letter, `_`, or a character that is not ASCII
pub starts_name-high : (c : ℕ) → starts_name c ≡ true → 65 ≤ c
starts_name-high c e =
    ⊎_elim (λ small. ⊎_elim (λ h. xid_start-high c small h) (λ h. omega (arith, eqb-same c 95 h)) (or-cases (is_xid_start c) (eqb c 95) e)) (λ large. omega arith) (below_or_not c 128)

xid_continue-range : (c : ℕ) → c < 128 → is_xid_continue c ≡ true → ((48 ≤ c) × (c ≤ 57)) ⊎ (65 ≤ c)
xid_continue-range c small e =
    let part : (is_ascii_alphanumeric c || eqb c 95) ≡ true = sym (is_xid_continue-ascii c small) ∙ e in
    ⊎_elim (λ h. ⊎_elim (λ k. ⊎_elim (λ l. inl (digits l)) (λ l. inr (in_range-low 65 90 c l)) (or-cases (is_in_range 48 57 c) (is_in_range 65 90 c) k)) (λ k. inr (omega (arith, in_range-low 97 122 c k))) (or-cases (is_in_range 48 57 c || is_in_range 65 90 c) (is_in_range 97 122 c) h))
    (λ h. inr (omega (arith, eqb-same c 95 h))) (or-cases (is_ascii_alphanumeric c) (eqb c 95) part)
  where
    digits : is_in_range 48 57 c ≡ true → (48 ≤ c) × (c ≤ 57)
    digits l = grind (arith, nat_tests)

-- a character that ends a token, in numbers
blank-places : (c : ℕ) → is_blank c ≡ true → c < 48
blank-places c e =
    ⊎_elim (λ h. omega (arith, eqb-same c 32 h)) (λ k.
    ⊎_elim (λ h. omega (arith, eqb-same c 9 h)) (λ l.
    ⊎_elim (λ h. omega (arith, eqb-same c 10 h)) (λ h. omega (arith, eqb-same c 13 h)) (or-cases (eqb c 10) (eqb c 13) l))
    (or-cases (eqb c 9) (eqb c 10 || eqb c 13) k)) (or-cases (eqb c 32) (eqb c 9 || (eqb c 10 || eqb c 13)) e)

end-places : (c : ℕ) → ends_token c ≡ true → (c < 48) ⊎ (c ≡ 59)
end-places c e =
    ⊎_elim (λ h. inl (blank-places c h)) (λ k.
    ⊎_elim (λ h. inl (omega (arith, eqb-same c 40 h))) (λ l.
    ⊎_elim (λ h. inl (omega (arith, eqb-same c 41 h))) (λ h. inr (eqb-same c 59 h)) (or-cases (eqb c 41) (eqb c 59) l))
    (or-cases (eqb c 40) (eqb c 41 || eqb c 59) k)) (or-cases (is_blank c) (eqb c 40 || (eqb c 41 || eqb c 59)) e)

-- what ends a token continues no name
pub name_ends : (c : ℕ) → ends_token c ≡ true → continues_name c ≡ false
name_ends c e =
    false_from_ne_true (continues_name c) (λ h.
    ⊎_elim (λ p. ⊎_elim (λ q. absurd (omega (arith, p, q))) (λ q. absurd (omega (arith, p, q))) (end-places c e)) (λ p. ⊎_elim (λ q. absurd (omega (arith, p, q))) (λ q. absurd (omega (arith, p, q))) (end-places c e)) (xid_continue-range c (ends_token-ascii c e) h))

-- it is no digit
pub number_ends : (c : ℕ) → ends_token c ≡ true → is_digit c ≡ false
number_ends c e =
    false_from_ne_true (is_digit c) (λ h.
    let r = is_digit-range c h in ⊎_elim (λ q. absurd (omega (arith, r.0, q))) (λ q. absurd (omega (arith, r.1, q))) (end-places c e))

-- it is no bit
pub literal_ends : (c : ℕ) → ends_token c ≡ true → (eqb c 48 || eqb c 49) ≡ false
literal_ends c e =
    false_from_ne_true (eqb c 48 || eqb c 49) (λ h.
    ⊎_elim (λ k. let same = eqb-same c 48 k in ⊎_elim (λ q. absurd (omega (arith, same, q))) (λ q. absurd (omega (arith, same, q))) (end-places c e))
    (λ k. let same = eqb-same c 49 k in ⊎_elim (λ q. absurd (omega (arith, same, q))) (λ q. absurd (omega (arith, same, q))) (end-places c e)) (or-cases (eqb c 48) (eqb c 49) h))

-- ---- what a character begins

other : (c n : ℕ) → (c ≡ n → ⊥) → eqb c n ≡ false
other c n h = grind (arith, nat_tests)

by_tests-blank : (b s o c d h n : Bool) → b ≡ true → by_tests b s o c d h n ≡ Blank
by_tests-blank true s o c d h n e = refl
by_tests-blank false s o c d h n e = cc

by_tests-number : (b s o c d h n : Bool) → b ≡ false → s ≡ false → o ≡ false → c ≡ false → d ≡ true → by_tests b s o c d h n ≡ Number
by_tests-number b s o c d h n eb es eo ec ed = rw (eb, es, eo, ec, ed) refl

by_tests-word : (b s o c d h n : Bool) → b ≡ false → s ≡ false → o ≡ false → c ≡ false → d ≡ false → h ≡ false → n ≡ true → by_tests b s o c d h n ≡ Word
by_tests-word b s o c d h n eb es eo ec ed eh en = rw (eb, es, eo, ec, ed, eh, en) refl

-- a blank begins a gap
pub beginning-blank : (c : ℕ) → is_blank c ≡ true → beginning_of c ≡ Blank
beginning-blank c e = by_tests-blank (is_blank c) (eqb c 59) (eqb c 40) (eqb c 41) (is_digit c) (eqb c 35) (starts_name c) e

-- a digit begins a number
pub beginning-number : (c : ℕ) → is_digit c ≡ true → beginning_of c ≡ Number
beginning-number c e =
    let r = is_digit-range c e in
    by_tests-number (is_blank c) (eqb c 59) (eqb c 40) (eqb c 41) (is_digit c) (eqb c 35) (starts_name c)
    (false_from_ne_true (is_blank c) (λ h. absurd (omega (arith, r.0, blank-places c h)))) (other c 59 (λ h. omega (arith, r.1, h))) (other c 40 (λ h. omega (arith, r.0, h))) (other c 41 (λ h. omega (arith, r.0, h))) e

-- a character that starts a name begins a word
pub beginning-word : (c : ℕ) → starts_name c ≡ true → beginning_of c ≡ Word
beginning-word c e =
    let r = starts_name-high c e in
    by_tests-word (is_blank c) (eqb c 59) (eqb c 40) (eqb c 41) (is_digit c) (eqb c 35) (starts_name c)
    (false_from_ne_true (is_blank c) (λ h. absurd (omega (arith, r, blank-places c h)))) (other c 59 (λ h. omega (arith, r, h))) (other c 40 (λ h. omega (arith, r, h))) (other c 41 (λ h. omega (arith, r, h)))
    (false_from_ne_true (is_digit c) (λ h. absurd (omega (arith, r, (is_digit-range c h).1)))) (other c 35 (λ h. omega (arith, r, h))) e
