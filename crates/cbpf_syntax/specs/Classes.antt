-- The classes of tokens of which the forms of `Table` are made. These are the kernel's (Documentation/networking/filter) and
-- this project's own.
use Rattle.std.specs.Prelude.{ℕ, List}

-- a class of tokens; a form is a list of classes
pub data Class : Type 0 where
  -- the word of these bytes
  the_word : List ℕ → Class
  -- the mark
  the_mark : ℕ → Class
  -- a number that is the literal
  literal : Class
  -- a number that is the absolute value of the literal, after a `-`
  negated : Class
  -- a number of this value, which is no literal
  exactly : ℕ → Class
  -- an extension's name
  extension : Class
  -- a word that is not reserved
  name : Class
