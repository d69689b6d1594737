-- What is proved of the reader's two calls together (01, The published file; 02, W10).
use Rattle.std.specs.Prelude.{Ok, List, ◌↔◌, ◌≡◌, ℕ}
use Rattle.file.specs.declared.Figures.{Figures}
use Rattle.file.specs.Layout.{Content, figures_of, tables_of, file_of}
use Rattle.file.specs.Reader.{read_file, tables_part}
use Rattle.file.specs.Contents.{Bytes, WellFormed, content_of}

-- these bytes are the file of a well-formed content, which has these figures and tables
pub record FileOf (f : Content) (bs : List ℕ) (g : Figures) (part : List ℕ) : Type 0 where
  pub formed : WellFormed f
  pub file : file_of f ≡ bs
  pub figures : figures_of f ≡ g
  pub tables : tables_of f ≡ part

-- "It accepts exactly": `read` accepts with these figures and `tables` hands back these tables exactly when there is such a content;
-- proved by `exactly`
abbrev pub Exactly : Type 0
Exactly =
    (bs : List ℕ) → Bytes bs → (g : Figures) (part : List ℕ)
    → ((read_file bs ≡ Ok g) × (tables_part bs ≡ part)) ↔ ((f : Content) × FileOf f bs g part)

-- "the writing of what such a file gives is in its own layout": what `read` accepts is byte for byte the file of the content that
-- the answers of the two calls hold; proved by `canonical`
abbrev pub Canonical : Type 0
Canonical =
    (bs : List ℕ) → Bytes bs → (g : Figures) → read_file bs ≡ Ok g → FileOf (content_of g (tables_part bs)) bs g (tables_part bs)
