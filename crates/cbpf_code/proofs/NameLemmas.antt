-- Names of extensions: they are short, and each is found by its name.
use Rattle.std.proofs.Common.{◌≡◌, ◌≤◌, ℕ, List, [], ◌∷◌, length, arith, refl, sym, true, false, Bool, Some, None}
use Rattle.std.specs.Prelude.{bytes_eq, map}
use Rattle.std.proofs.lemmas.Map.{NonePasses, lookup-none}
use Rattle.std.proofs.lemmas.Slice.Eq.{bytes_eq-Decides}
use Rattle.cbpf_code.specs.declared.extension.Ext.{Ext}
use Rattle.cbpf_code.specs.declared.extension.Ext.TheVariants.{Proto}
use Rattle.cbpf_code.specs.Extension.{ext_name, ext_table, ext_named, named_extensions}

pub name_short : (e : Ext) → length (ext_name e) ≤ 10
name_short Proto = omega arith
name_short _ = omega arith

pub ruleset names = (name_short)

found_by_name : (e : Ext) → ext_named (ext_name e) ≡ Some e
unfolding ext_named
found_by_name Proto = refl
found_by_name _ = refl

pub name-found : (w : List ℕ) (e : Ext) → w ≡ ext_name e → Some e ≡ ext_named w
name-found w e h = rw h (sym (found_by_name e))

no_name : (w : List ℕ) (x : Ext) (b : Bool) → bytes_eq w (ext_name x) ≡ b → (w ≡ ext_name x → ⊥) → b ≡ false
no_name w x true is h = absurd (h ((bytes_eq-Decides w (ext_name x)).0 is))
no_name w x false is h = refl

none_passes : (es : List (ℕ × Ext)) (w : List ℕ) → ((x : Ext) → w ≡ ext_name x → ⊥)
    → NonePasses (bytes_eq w) (map (λ e. (ext_name e.1, e.1)) es)
none_passes [] w h = tt
none_passes (e ∷ es) w h = (no_name w e.1 (bytes_eq w (ext_name e.1)) refl (h e.1), none_passes es w h)

pub none_named : (w : List ℕ) → ((x : Ext) → w ≡ ext_name x → ⊥) → ext_named w ≡ None
unfolding ext_named
none_named w h = lookup-none (bytes_eq w) named_extensions (none_passes ext_table w h)
