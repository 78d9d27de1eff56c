-- A name is text.
use Rattle.std.proofs.Common.{◌≡◌, ℕ, zero, suc, true, leb, List, [], ◌∷◌, length, arith}
use Rattle.std.specs.List.{list_all}
use Rattle.std.specs.Str.{IsAscii, IsUtf8}
use Rattle.std.proofs.lemmas.Bool.{and_parts, leb-true}
use Rattle.std.proofs.lemmas.Str.{IsUtf8-from_ascii}
use Rattle.catalogue.specs.Names.{glyph, nameable}

ascii : (bs : List ℕ) → list_all glyph bs ≡ true → IsAscii bs
ascii [] e i = omega arith
ascii (b ∷ bs) e zero = let s = and_parts (glyph b) (list_all glyph bs) e in let l = leb-true b 0x7e (and_parts (leb 0x21 b) (leb b 0x7e) s.0).1 in omega arith
ascii (b ∷ bs) e (suc i) = ascii bs (and_parts (glyph b) (list_all glyph bs) e).1 i

pub text : (bs : List ℕ) → nameable bs ≡ true → IsUtf8 bs
text bs e = let s = and_parts (leb 1 (length bs)) _ e in IsUtf8-from_ascii bs (ascii bs (and_parts (leb (length bs) 16) (list_all glyph bs) s.1).1)
