-- The words after a command's first one, as the parser keeps them. No public clause names it.
use Rattle.std.specs.Prelude.{◌≡◌, ℕ, List, [], ◌∷◌}
use Rattle.cbpf_tool.specs.declared.arguments.Arguments.{Arguments}
use Rattle.cbpf_tool.specs.declared.arguments.Arguments.TheVariants.{Zero, One, Two, Three, More}

-- the words are those that the arguments keep; of four words and more none is kept
abbrev pub AreArguments : List (List ℕ) → Arguments → Type 0
AreArguments ws Zero = ws ≡ []
AreArguments ws (One a) = ws ≡ a.now ∷ []
AreArguments ws (Two a b) = ws ≡ a.now ∷ b.now ∷ []
AreArguments ws (Three a b c) = ws ≡ a.now ∷ b.now ∷ c.now ∷ []
AreArguments ws More = (a b c d : List ℕ) × (rest : List (List ℕ)) × (ws ≡ a ∷ b ∷ c ∷ d ∷ rest)
