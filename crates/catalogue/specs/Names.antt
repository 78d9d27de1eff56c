-- Names of sheets: which bytes may be one, and the bytes of one.
use Rattle.std.specs.Prelude.{ℕ, Bool, ◌&&◌, List, length, nat_le}
use Rattle.std.specs.List.{list_all}
use Rattle.catalogue.specs.declared.name.Name.{Name}

-- a byte from 21 to 7E (hexadecimal)
abbrev pub glyph : ℕ → Bool
glyph b = nat_le 0x21 b && nat_le b 0x7e

-- 1 to 16 such bytes
abbrev pub nameable : List ℕ → Bool
nameable bs = nat_le 1 (length bs) && (nat_le (length bs) 16 && list_all glyph bs)

abbrev pub spelled : Name → List ℕ
spelled n = n.text.bytes
