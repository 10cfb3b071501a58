-- Bytes that patterns read.
use Rattle.std.specs.Prelude.{◌≡◌, true, false, [], ◌∷◌, None}
use Rattle.std.proofs.Common.{refl}
use Rattle.rc_pattern.specs.Re.{empty, literal, byte_in, char_in, repeat, capture, cat, alt, none}
use Rattle.rc_literals.specs.Stops.{reads}

-- `ab` reads a byte b, and none that is c
literal_read : reads (literal (97 ∷ 98 ∷ [])) 98 ≡ true
literal_read = refl

literal_not : reads (literal (97 ∷ 98 ∷ [])) 99 ≡ false
literal_not = refl

-- `[0-9]` reads a 5, and neither a line feed nor a byte above 127
digit_read : reads (char_in ((48, 57) ∷ [])) 53 ≡ true
digit_read = refl

digit_not : reads (char_in ((48, 57) ∷ [])) 10 ≡ false
digit_not = refl

digit_far : reads (char_in ((48, 57) ∷ [])) 195 ≡ false
digit_far = refl

-- `.` reads each byte above 127, and no line feed
dot_far : reads (char_in ((0, 9) ∷ (11, 1114111) ∷ [])) 195 ≡ true
dot_far = refl

dot_not : reads (char_in ((0, 9) ∷ (11, 1114111) ∷ [])) 10 ≡ false
dot_not = refl

-- a class of bytes reads those alone
bytes_far : reads (byte_in ((128, 200) ∷ [])) 201 ≡ false
bytes_far = refl

-- `(x|[a-c]*)y` reads what its members read
joined_read : reads (cat (capture 1 None (alt (literal (120 ∷ [])) (alt (repeat 0 None true (char_in ((97, 99) ∷ []))) none))) (cat (literal (121 ∷ [])) empty)) 98 ≡ true
joined_read = refl

joined_not : reads (cat (capture 1 None (alt (literal (120 ∷ [])) (alt (repeat 0 None true (char_in ((97, 99) ∷ []))) none))) (cat (literal (121 ∷ [])) empty)) 100 ≡ false
joined_not = refl
