-- The five examples that partner houses were given, each as the line of its credential.
use mathlib.Core.Path.{◌≡◌, refl}
use mathlib.Core.List.{[], ◌∷◌}
use Rattle.rt0.specs.Credential.{◌·◌, entity, role, link, intersection, ◌⟵◌}
use Rattle.text.specs.Ascii.{ascii}
use Rattle.text.specs.Decimal.{decimal, digits_within}
use Rattle.spelling.specs.Line.{entity_text, name_text, role_text, parts_text, body_text, line_of}

entity_line : line_of (2 · 3 ⟵ entity 3) ≡ ascii "e2.r3 <- e3\n"
unfolding line_of role_text entity_text name_text body_text decimal digits_within
entity_line = refl

role_line_lem : line_of (1 · 2 ⟵ role (2 · 3)) ≡ ascii "e1.r2 <- e2.r3\n"
unfolding line_of role_text entity_text name_text body_text decimal digits_within
role_line_lem = refl

link_line : line_of (1 · 1 ⟵ link 2 4) ≡ ascii "e1.r1 <- e1.r2.r4\n"
unfolding line_of role_text entity_text name_text body_text decimal digits_within
link_line = refl

two_line : line_of (1 · 6 ⟵ intersection (1 · 1 ∷ 5 · 5 ∷ [])) ≡ ascii "e1.r6 <- e1.r1 & e5.r5\n"
unfolding line_of role_text entity_text name_text body_text parts_text decimal digits_within
two_line = refl

three_line : line_of (1 · 6 ⟵ intersection (1 · 1 ∷ 5 · 5 ∷ 2 · 2 ∷ [])) ≡ ascii "e1.r6 <- e1.r1 & e5.r5 & e2.r2\n"
unfolding line_of role_text entity_text name_text body_text parts_text decimal digits_within
three_line = refl
