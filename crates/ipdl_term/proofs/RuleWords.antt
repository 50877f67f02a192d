-- Words that are those of rules without arguments, asked in the order of the rules.
use Rattle.std.proofs.Common.{◌≡◌, ℕ, Bool, true, false, List, refl, sym, subst, ◌∙◌}
use Rattle.std.specs.Prelude.{bytes_eq, codes, if◌then◌else◌}
use Rattle.std.proofs.lemmas.Bool.{false≢true}
use Rattle.std.proofs.lemmas.Slice.Eq.{bytes_eq-Decides}
use Rattle.ipdl_term.specs.Rules.{heading_named, is_plain_word}

-- what is known of a word is known of the same word
pub at_word : (w word : List ℕ) (b : Bool) → w ≡ word → b ≡ is_plain_word w → b ≡ is_plain_word word
at_word w word b same is = subst (λ v. b ≡ is_plain_word v) same is

-- whether the word is that of a rule
abbrev pub is_known : List ℕ → Bool
is_known word =
    if bytes_eq word (codes "beta") then true else (
    if bytes_eq word (codes "eta") then true else (
    if bytes_eq word (codes "assoc") then true else (
    if bytes_eq word (codes "swap") then true else (
    if bytes_eq word (codes "dropr") then true else (
    if bytes_eq word (codes "again") then true else (
    if bytes_eq word (codes "iftrue") then true else (
    if bytes_eq word (codes "iffalse") then true else (
    if bytes_eq word (codes "ifsame") then true else (
    if bytes_eq word (codes "ifbind") then true else (
    if bytes_eq word (codes "mask") then true else (
    if bytes_eq word (codes "perm") then true else (
    if bytes_eq word (codes "join") then true else (
    if bytes_eq word (codes "flip0") then true else (
    if bytes_eq word (codes "tidy") then true else (
    if bytes_eq word (codes "table") then true else (
    if bytes_eq word (codes "lin") then true else (
    if bytes_eq word (codes "comm") then true else (
    if bytes_eq word (codes "assocl") then true else (
    if bytes_eq word (codes "assocr") then true else (
    if bytes_eq word (codes "unit") then true else (
    if bytes_eq word (codes "newswap") then true else (
    if bytes_eq word (codes "scope") then true else (
    if bytes_eq word (codes "rename") then true else (
    if bytes_eq word (codes "absorb") then true else (
    if bytes_eq word (codes "fold") then true else (
    if bytes_eq word (codes "subst") then true else (
    if bytes_eq word (codes "drop") then true else (
    if bytes_eq word (codes "subsume") then true else (
    if bytes_eq word (codes "diverge") then true else (
    if bytes_eq word (codes "shape") then true else (
    false)))))))))))))))))))))))))))))))

-- a test that fails leaves the later ones
skipped : (b rest : Bool) → (if b then true else rest) ≡ false → (b ≡ false) × (rest ≡ false)
skipped true rest e = absurd (false≢true (sym e))
skipped false rest e = (refl, e)

turned : (x y : List ℕ) → bytes_eq x y ≡ false → bytes_eq y x ≡ false
turned x y e = by_test (bytes_eq y x) refl
  where
    by_test : (b : Bool) → bytes_eq y x ≡ b → b ≡ false
    by_test true is = absurd (false≢true (sym e ∙ (bytes_eq-Decides x y).1 (sym ((bytes_eq-Decides y x).0 is))))
    by_test false is = refl

pub unknown_word : (word : List ℕ) → is_known word ≡ false → false ≡ is_plain_word word
unfolding heading_named
unknown_word word e0 =
    let s0 = skipped (bytes_eq word (codes "beta")) _ e0 in
    let s1 = skipped (bytes_eq word (codes "eta")) _ s0.1 in
    let s2 = skipped (bytes_eq word (codes "assoc")) _ s1.1 in
    let s3 = skipped (bytes_eq word (codes "swap")) _ s2.1 in
    let s4 = skipped (bytes_eq word (codes "dropr")) _ s3.1 in
    let s5 = skipped (bytes_eq word (codes "again")) _ s4.1 in
    let s6 = skipped (bytes_eq word (codes "iftrue")) _ s5.1 in
    let s7 = skipped (bytes_eq word (codes "iffalse")) _ s6.1 in
    let s8 = skipped (bytes_eq word (codes "ifsame")) _ s7.1 in
    let s9 = skipped (bytes_eq word (codes "ifbind")) _ s8.1 in
    let s10 = skipped (bytes_eq word (codes "mask")) _ s9.1 in
    let s11 = skipped (bytes_eq word (codes "perm")) _ s10.1 in
    let s12 = skipped (bytes_eq word (codes "join")) _ s11.1 in
    let s13 = skipped (bytes_eq word (codes "flip0")) _ s12.1 in
    let s14 = skipped (bytes_eq word (codes "tidy")) _ s13.1 in
    let s15 = skipped (bytes_eq word (codes "table")) _ s14.1 in
    let s16 = skipped (bytes_eq word (codes "lin")) _ s15.1 in
    let s17 = skipped (bytes_eq word (codes "comm")) _ s16.1 in
    let s18 = skipped (bytes_eq word (codes "assocl")) _ s17.1 in
    let s19 = skipped (bytes_eq word (codes "assocr")) _ s18.1 in
    let s20 = skipped (bytes_eq word (codes "unit")) _ s19.1 in
    let s21 = skipped (bytes_eq word (codes "newswap")) _ s20.1 in
    let s22 = skipped (bytes_eq word (codes "scope")) _ s21.1 in
    let s23 = skipped (bytes_eq word (codes "rename")) _ s22.1 in
    let s24 = skipped (bytes_eq word (codes "absorb")) _ s23.1 in
    let s25 = skipped (bytes_eq word (codes "fold")) _ s24.1 in
    let s26 = skipped (bytes_eq word (codes "subst")) _ s25.1 in
    let s27 = skipped (bytes_eq word (codes "drop")) _ s26.1 in
    let s28 = skipped (bytes_eq word (codes "subsume")) _ s27.1 in
    let s29 = skipped (bytes_eq word (codes "diverge")) _ s28.1 in
    let s30 = skipped (bytes_eq word (codes "shape")) _ s29.1 in
    rw (turned word (codes "beta") s0.0, turned word (codes "eta") s1.0, turned word (codes "assoc") s2.0, turned word (codes "swap") s3.0, turned word (codes "dropr") s4.0, turned word (codes "again") s5.0, turned word (codes "iftrue") s6.0, turned word (codes "iffalse") s7.0, turned word (codes "ifsame") s8.0, turned word (codes "ifbind") s9.0, turned word (codes "mask") s10.0, turned word (codes "perm") s11.0, turned word (codes "join") s12.0, turned word (codes "flip0") s13.0, turned word (codes "tidy") s14.0, turned word (codes "table") s15.0, turned word (codes "lin") s16.0, turned word (codes "comm") s17.0, turned word (codes "assocl") s18.0, turned word (codes "assocr") s19.0, turned word (codes "unit") s20.0, turned word (codes "newswap") s21.0, turned word (codes "scope") s22.0, turned word (codes "rename") s23.0, turned word (codes "absorb") s24.0, turned word (codes "fold") s25.0, turned word (codes "subst") s26.0, turned word (codes "drop") s27.0, turned word (codes "subsume") s28.0, turned word (codes "diverge") s29.0, turned word (codes "shape") s30.0) refl
