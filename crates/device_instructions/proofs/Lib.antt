pub mod AutoloadLaws
