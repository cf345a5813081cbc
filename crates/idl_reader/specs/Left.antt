-- The tokens that are left.
use Rattle.std.specs.Prelude.{List, [], ◌∷◌}
use Rattle.idl_reader.specs.declared.rest.Rest.{Rest}
use Rattle.idl_reader.specs.declared.token.Token.{Token}
use Rattle.idl_reader.specs.declared.token.Token.TheVariants as token
use Rattle.idl_reader.specs.Tokens.{Lexeme, Word, Sign, Stray, Long, End, Gap, tokens_from}

-- the tokens of what is left of a text
abbrev pub left : Rest → List Lexeme
left rest = tokens_from Gap rest.place rest.bytes.now

-- a token, and those after it
abbrev pub found : Token → List Lexeme
found (token.Word place word after) = Word place word.now ∷ left after
found (token.Sign place sign after) = Sign place sign ∷ left after
found (token.Stray place) = Stray place ∷ []
found (token.Long place) = Long place ∷ []
found (token.End place) = End place ∷ []

-- what was read, seen by view, and the tokens after it
abbrev pub with_left : {X Y : Type 0} → (X → Y) → X × Rest → Y × List Lexeme
with_left view x = (view x.0, left x.1)
